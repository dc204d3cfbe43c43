use Rattle.std.proofs.Common.{◌-◌, ◌∙◌, ap, sym, arith, get_or, None, unwrap_or}
use Rattle.std.proofs.lemmas.List.{get_or_read}
use Rattle.day_partitions.proofs.PlaceLemmas.{id_inner, id_leaf}
use Rattle.day_partitions.proofs.climb.node.Goals as goal

pub returns-then-place-lt64 : goal.returns-then-place-lt64
returns-then-place-lt64 c =
    get_or_read c.args.nodes.now c.args.place _ (omega arith) c.index-nodes-place.is 0
    ∙ sym (id_inner c.args.nodes.now c.args.leaves.now c.args.place c.if-place-lt64.true)

pub returns-in-Some : goal.returns-in-Some
returns-in-Some c =
    let leaves = c.args.leaves.now in let n = c.args.place in
    let read = get_or_read leaves (n - 64) _ (omega arith) c.index-leaves-place.is None in
    ap (λ o. unwrap_or o (get_or c.args.nodes.now 65 0)) (sym c.in-Some.is ∙ read)
    ∙ sym (id_leaf c.args.nodes.now leaves n c.if-place-lt64.false c.requires.place)

pub returns-in-None : goal.returns-in-None
returns-in-None c =
    let leaves = c.args.leaves.now in let n = c.args.place in
    let read = get_or_read leaves (n - 64) _ (omega arith) c.index-leaves-place.is None in
    get_or_read c.args.nodes.now 65 _ (omega arith) c.index-nodes-65.is 0
    ∙ ap (λ o. unwrap_or o (get_or c.args.nodes.now 65 0)) (sym c.in-None.is ∙ read)
    ∙ sym (id_leaf c.args.nodes.now leaves n c.if-place-lt64.false c.requires.place)
