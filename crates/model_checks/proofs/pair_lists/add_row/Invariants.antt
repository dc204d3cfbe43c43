use Rattle.trace_types.specs.Parts.{by_text}
use Rattle.std.proofs.Common.{take}
use Rattle.model_checks.specs.inner.Growing.{AppendsExactly}
use Rattle.trace_types.specs.NameOrder.{name_cmp, pair_cmp}
use Rattle.trace_types.specs.Relations.{HappensBefore, ExcludesUnordered}
use Rattle.model_checks.proofs.PairLemmas.{IsInRow}
use Rattle.model_checks.proofs.pair_lists.add_row.Given as goal

abbrev pub invariant-loop-place : goal.invariant-loop-place
invariant-loop-place l = record {
  before : AppendsExactly (pair_cmp name_cmp) (IsInRow (HappensBefore by_text l.traces) l.first (take l.place l.names)) l.initial.lists.before.items l.lists.before.items;
  exclusive : AppendsExactly (pair_cmp name_cmp) (IsInRow (ExcludesUnordered by_text name_cmp l.traces) l.first (take l.place l.names)) l.initial.lists.exclusive.items l.lists.exclusive.items;
}
