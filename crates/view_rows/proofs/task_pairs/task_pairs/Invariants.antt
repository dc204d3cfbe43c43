use Rattle.std.proofs.Common.{take}
use Rattle.std.specs.Cmp.Lexicographic.{slice_cmp}
use Rattle.std.specs.Ordering.{nat_cmp}
use Rattle.view_rows.specs.inner.Listings.{IsPipe}
use Rattle.trace_types.specs.Listing.{ListsExactly}
use Rattle.trace_types.specs.NameOrder.{pair_cmp}
use Rattle.kept_names.proofs.ListingLemmas.{texts_of}
use Rattle.view_rows.proofs.PairLemmas.{IsInRows}
use Rattle.view_rows.proofs.task_pairs.task_pairs.Given as goal

abbrev pub invariant-loop-at : goal.invariant-loop-at
invariant-loop-at l = ListsExactly (pair_cmp (slice_cmp nat_cmp)) (IsInRows (IsPipe l.tasks l.model.words) (take l.at (texts_of l.tasks))) l.pairs.items
