use Rattle.std.proofs.Common.{◌≡◌, ◌∙◌, ◌+◌, ◌/◌, sym, ap, subst, get_or, Some, None, arith, set}
use Rattle.std.proofs.lemmas.List.{get_or_default}
use Rattle.row_pool.specs.Pools.{IsLive}
use Rattle.day_partitions.specs.inner.Nodes.{ChangesInner, IsTreeBut, tree_of}
use Rattle.day_partitions.proofs.LeafLemmas.{id_there}
use Rattle.day_partitions.proofs.TreeLemmas.{leaf_within, removed_is, view_is}
use Rattle.day_partitions.proofs.tree.Tree.remove.Goals as goal

pub give_back-requires : goal.give_back-requires
give_back-requires g c =
    let a = c.self.inside in
    let below = leaf_within a.pool a.nodes.items a.leaves.items c.args.self.now c.args.slot c.self.invariant c.self.view_is c.requires.slot in
    let there : get_or a.leaves.items c.args.slot None ≡ Some c.in-Some.leaf = get_or_default a.leaves.items c.args.slot None c.index_mut.result.now (omega (arith, below, c.self.invariant.rows.all_leaves)) ∙ sym c.index_mut.ensures.value ∙ sym c.in-Some.ensures.value in
    subst (λ i. IsLive a.pool i) (id_there a.nodes.items a.leaves.items c.args.slot c.in-Some.leaf below there) (c.self.invariant.rows.live _ (omega (arith, below)))

pub climb-requires-clause-tree : goal.climb-requires-clause-tree
climb-requires-clause-tree g c =
    let a = c.self.inside in
    let below = leaf_within a.pool a.nodes.items a.leaves.items c.args.self.now c.args.slot c.self.invariant c.self.view_is c.requires.slot in
    let there : get_or a.leaves.items c.args.slot None ≡ Some c.in-Some.leaf = get_or_default a.leaves.items c.args.slot None c.index_mut.result.now (omega (arith, below, c.self.invariant.rows.all_leaves)) ∙ sym c.index_mut.ensures.value ∙ sym c.in-Some.ensures.value in
    let now = c.deref-2.ensures.value ∙ ap (set a.leaves.items c.args.slot) c.take.ensures.after in
    let h = removed_is a.pool c.give_back.new.self a.nodes.items a.leaves.items c.deref-2.result.now c.args.slot c.self.invariant below c.in-Some.leaf there c.give_back.ensures now in
    subst (λ l. IsTreeBut c.give_back.new.self l c.deref-2.result.now ((64 + c.args.slot) / 2)) (sym c.deref.ensures.value) (record { rows = h.rows; met = h.met })

pub returns-clause-removed : goal.returns-clause-removed
returns-clause-removed g c =
    let a = c.self.inside in
    let below = leaf_within a.pool a.nodes.items a.leaves.items c.args.self.now c.args.slot c.self.invariant c.self.view_is c.requires.slot in
    let there : get_or a.leaves.items c.args.slot None ≡ Some c.in-Some.leaf = get_or_default a.leaves.items c.args.slot None c.index_mut.result.now (omega (arith, below, c.self.invariant.rows.all_leaves)) ∙ sym c.index_mut.ensures.value ∙ sym c.in-Some.ensures.value in
    let now = c.deref-2.ensures.value ∙ ap (set a.leaves.items c.args.slot) c.take.ensures.after in
    let h = removed_is a.pool c.give_back.new.self a.nodes.items a.leaves.items c.deref-2.result.now c.args.slot c.self.invariant below c.in-Some.leaf there c.give_back.ensures now in
    let inner = subst (λ l. ChangesInner c.give_back.new.self l c.deref-2.result.now c.climb.new.pool) c.deref.ensures.value c.climb.ensures.others in
    let more : c.give_back.new.self.spare ≡ c.args.self.now.spare + 1 = ap (λ q. q.spare) c.give_back.ensures ∙ ap (λ t. t.spare + 1) c.self.view_is in
    ap (tree_of c.climb.new.pool) (sym c.deref-2.ensures.value)
    ∙ view_is a.pool c.give_back.new.self c.climb.new.pool a.leaves.items c.deref-2.result.now a.nodes.items c.args.slot _ _ c.args.self.now h inner c.self.view_is more
