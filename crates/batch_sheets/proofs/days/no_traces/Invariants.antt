use Rattle.std.proofs.Common.{[], take}
use Rattle.batch_sheets.specs.Splitting.{AreSplitSoFar}
use Rattle.batch_sheets.proofs.days.no_traces.Given as goal

-- the lists so far
abbrev pub invariant-loop-day : goal.invariant-loop-day
invariant-loop-day l = AreSplitSoFar (take l.day-index l.days) [] l.split.items
