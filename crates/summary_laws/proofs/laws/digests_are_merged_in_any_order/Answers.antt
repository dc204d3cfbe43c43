use Rattle.std.specs.Cmp.Lexicographic.{slice_cmp}
use Rattle.std.specs.Ordering.{nat_cmp}
use Rattle.digest_facts.proofs.MergeLemmas.{text_apart}
use Rattle.digest_facts.specs.MergeLaws.{MergesFreely}
use Rattle.trace_types.specs.NameOrder.{name_cmp}
use Rattle.trace_types.specs.Segments.{SegmentName}
use Rattle.std.specs.Prelude.{ℕ, List}
use Rattle.summary_laws.proofs.MergeOrderLemmas.{in_any_order, in_steps}
use Rattle.summary_laws.proofs.laws.digests_are_merged_in_any_order.Goals as goal

pub returns : goal.returns
returns c =
    let free : MergesFreely name_cmp (slice_cmp nat_cmp) = c.digests_merge_freely.ensures name_cmp (slice_cmp nat_cmp) c.names_tell_apart.ensures text_apart in
    record { order = in_any_order free; steps = in_steps free }
