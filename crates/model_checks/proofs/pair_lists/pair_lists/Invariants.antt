use Rattle.trace_types.specs.Parts.{by_text}
use Rattle.std.proofs.Common.{take}
use Rattle.trace_types.specs.Listing.{ListsExactly}
use Rattle.trace_types.specs.NameOrder.{name_cmp, pair_cmp}
use Rattle.trace_types.specs.Relations.{HappensBefore, ExcludesUnordered}
use Rattle.model_checks.proofs.PairLemmas.{IsInRows}
use Rattle.model_checks.proofs.pair_lists.pair_lists.Given as goal

abbrev pub invariant-loop-first : goal.invariant-loop-first
invariant-loop-first l = record {
  before : ListsExactly (pair_cmp name_cmp) (IsInRows (HappensBefore by_text l.traces) (take l.first-index l.names)) l.lists.before.items;
  exclusive : ListsExactly (pair_cmp name_cmp) (IsInRows (ExcludesUnordered by_text name_cmp l.traces) (take l.first-index l.names)) l.lists.exclusive.items;
}
