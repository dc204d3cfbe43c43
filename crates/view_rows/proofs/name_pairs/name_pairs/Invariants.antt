use Rattle.std.proofs.Common.{take}
use Rattle.view_rows.specs.inner.Listings.{IsExclusion, IsOrder}
use Rattle.trace_types.specs.Listing.{ListsExactly}
use Rattle.trace_types.specs.NameOrder.{name_cmp, pair_cmp}
use Rattle.kept_names.proofs.ListingLemmas.{texts_of}
use Rattle.view_rows.proofs.PairLemmas.{IsInRows}
use Rattle.view_rows.proofs.name_pairs.name_pairs.Given as goal

abbrev pub invariant-loop-at : goal.invariant-loop-at
invariant-loop-at l = record {
  before : ListsExactly (pair_cmp name_cmp) (IsInRows (IsOrder l.names l.model.words) (take l.at (texts_of l.names))) l.pairs.before.items;
  exclusive : ListsExactly (pair_cmp name_cmp) (IsInRows (IsExclusion l.names l.model.words) (take l.at (texts_of l.names))) l.pairs.exclusive.items;
}
