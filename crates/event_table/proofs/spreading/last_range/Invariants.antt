use Rattle.std.proofs.Common.{◌≤◌, length}
use Rattle.event_table.proofs.spreading.last_range.Given as goal

-- the start is within the requests
abbrev pub invariant-loop-start : goal.invariant-loop-start
invariant-loop-start l = l.start ≤ length l.requests

abbrev pub decreases-loop-start : goal.decreases-loop-start
decreases-loop-start l = l.start
