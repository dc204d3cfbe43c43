use Rattle.std.proofs.Common.{◌≡◌, ℕ, Some, take}
use Rattle.std.specs.List.{slice_get}
use Rattle.view_rows.specs.inner.Growing.{AppendsExactly}
use Rattle.view_rows.specs.inner.Listings.{IsExclusion, IsOrder}
use Rattle.trace_types.specs.NameOrder.{name_cmp, pair_cmp}
use Rattle.trace_types.specs.Segments.{SegmentName}
use Rattle.kept_names.proofs.ListingLemmas.{texts_of}
use Rattle.view_rows.proofs.PairLemmas.{IsInRow}
use Rattle.view_rows.proofs.name_pairs.add_row.Given as goal

abbrev pub invariant-loop-place : goal.invariant-loop-place
invariant-loop-place l = record {
  before : (first : SegmentName × ℕ) → slice_get l.names l.at ≡ Some first
      → AppendsExactly (pair_cmp name_cmp) (IsInRow (IsOrder l.names l.model.words) first.0 (take l.place (texts_of l.names))) l.initial.pairs.before.items l.pairs.before.items;
  exclusive : (first : SegmentName × ℕ) → slice_get l.names l.at ≡ Some first
      → AppendsExactly (pair_cmp name_cmp) (IsInRow (IsExclusion l.names l.model.words) first.0 (take l.place (texts_of l.names))) l.initial.pairs.exclusive.items l.pairs.exclusive.items;
}
