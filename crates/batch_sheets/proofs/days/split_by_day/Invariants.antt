use Rattle.std.proofs.Common.{◌≡◌, ◌++◌, length}
use Rattle.std.specs.Vec.Iter.{into_iter_items, into_iter_len}
use Rattle.batch_sheets.specs.Splitting.{AreSplitSoFar}
use Rattle.batch_sheets.proofs.days.split_by_day.Given as goal

-- the traces so far are split
abbrev pub invariant-loop-trace : goal.invariant-loop-trace
invariant-loop-trace l = record {
  so_far : l.yielded ++ into_iter_items l.trace-iterator ≡ into_iter_items l.initial.trace-iterator;
  left : into_iter_len l.trace-iterator ≡ length (into_iter_items l.trace-iterator);
  split : AreSplitSoFar l.days l.yielded l.split.items;
}
