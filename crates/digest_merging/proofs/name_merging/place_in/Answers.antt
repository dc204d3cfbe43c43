use Rattle.std.proofs.Common.{rules}
use Rattle.std.proofs.lemmas.Fn.{always_returns_same}
use Rattle.trace_types.specs.NameOrder.{name_cmp}
use Rattle.digest_facts.proofs.MergeLemmas.{name_apart}
use Rattle.digest_merging.proofs.SearchLemmas.{searched}
use Rattle.digest_merging.proofs.name_merging.place_in.Goals as goal

pub returns : goal.returns
returns c =
    let facts = c.binary_search_by.ensures in
    let by_key = facts.position (λ row. name_cmp row.0 c.args.name.now) (always_returns_same _ _ _ (λ a r g called. search rules)) in
    rw c.ok.ensures.value (searched name_cmp name_apart c.args.rows.now c.args.name.now c.binary_search_by.result facts.bound by_key)
