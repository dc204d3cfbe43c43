use Rattle.std.proofs.Common.{◌≤◌}
use Rattle.clock_offsets.proofs.places.count_messages.Given as goal

abbrev pub invariant-loop-at : goal.invariant-loop-at
invariant-loop-at l = l.count ≤ l.at
