use Rattle.std.proofs.Common.{◌≡◌, map, take}
use Rattle.batch_sheets.specs.Splitting.{named_day}
use Rattle.batch_sheets.proofs.days.list_days.Given as goal

-- the days so far
abbrev pub invariant-loop-trace : goal.invariant-loop-trace
invariant-loop-trace l = l.days.items ≡ map named_day (take l.trace-index l.traces)
