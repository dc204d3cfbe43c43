use Rattle.std.proofs.Common.{◌+◌, ◌≤◌, length}
use Rattle.reading_checks.proofs.machine.tell.Given as goal

abbrev pub invariant-events : goal.invariant-events
invariant-events l = length l.machine.views ≤ length l.initial.machine.views + l.event-index
