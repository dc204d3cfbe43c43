use Rattle.std.proofs.Common.{rules}
use Rattle.std.proofs.lemmas.Fn.{always_returns_same}
use Rattle.std.specs.Cmp.Lexicographic.{slice_cmp}
use Rattle.std.specs.Ordering.{nat_cmp}
use Rattle.digest_facts.proofs.MergeLemmas.{text_apart}
use Rattle.digest_merging.proofs.SearchLemmas.{searched}
use Rattle.digest_merging.proofs.task_merging.place_in.Goals as goal

pub returns : goal.returns
returns c =
    let facts = c.binary_search_by.ensures in
    let by_key = facts.position (λ row. (slice_cmp nat_cmp) row.0 c.args.task.now) (always_returns_same _ _ _ (λ a r g called. search rules)) in
    rw c.ok.ensures.value (searched (slice_cmp nat_cmp) text_apart c.args.rows.now c.args.task.now c.binary_search_by.result facts.bound by_key)
