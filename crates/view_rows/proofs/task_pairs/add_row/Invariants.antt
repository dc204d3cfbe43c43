use Rattle.std.proofs.Common.{◌≡◌, ℕ, List, Some, take}
use Rattle.std.specs.Cmp.Lexicographic.{slice_cmp}
use Rattle.std.specs.List.{slice_get}
use Rattle.std.specs.Ordering.{nat_cmp}
use Rattle.view_rows.specs.inner.Growing.{AppendsExactly}
use Rattle.view_rows.specs.inner.Listings.{IsPipe}
use Rattle.trace_types.specs.NameOrder.{pair_cmp}
use Rattle.kept_names.proofs.ListingLemmas.{texts_of}
use Rattle.view_rows.proofs.PairLemmas.{IsInRow}
use Rattle.view_rows.proofs.task_pairs.add_row.Given as goal

abbrev pub invariant-loop-place : goal.invariant-loop-place
invariant-loop-place l = (first : List ℕ × ℕ) → slice_get l.tasks l.at ≡ Some first
    → AppendsExactly (pair_cmp (slice_cmp nat_cmp)) (IsInRow (IsPipe l.tasks l.model.words) first.0 (take l.place (texts_of l.tasks))) l.initial.pairs.items l.pairs.items
