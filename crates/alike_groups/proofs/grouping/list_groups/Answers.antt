use Rattle.std.proofs.Common.{◌∙◌, ◌∷◌, ◌++◌, [], ◌<◌, ◌≤◌, ap, arith, length}
use Rattle.std.proofs.lemmas.Map.Entries.{length-keys_of}
use Rattle.indexmap.specs.IndexMap.{keys}
use Rattle.alike_groups.proofs.GroupLemmas.{listed_all, listed_more}
use Rattle.alike_groups.proofs.grouping.list_groups.Goals as goal

pub entries-preserved : goal.entries-preserved
entries-preserved g c elements are =
    let m = c.args.groups.now in
    let lt : c.entries.index < length (keys m) = omega (arith, c.entries-test.true, c.len-index-end.ensures.len, length-keys_of m.entries) in
    c.in_ok-push.ensures.items ∙ ap (λ l. l ++ c.group_at.result ∷ []) (c.entries.invariant elements are)
    ∙ listed_more g.K.PartialEq.eq g.met.K.Eq.laws elements m c.entries.index c.group_at.result lt are c.group_at.ensures

pub returns : goal.returns
returns g c elements are =
    let m = c.args.groups.now in
    let le : length (keys m) ≤ c.entries.index = omega (arith, c.entries-test.false, c.len-index-end.ensures.len, length-keys_of m.entries) in
    c.entries.invariant elements are ∙ listed_all g.K.PartialEq.eq g.met.K.Eq.laws elements m c.entries.index le are
