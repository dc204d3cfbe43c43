use Rattle.clock_offsets.proofs.ClockLemmas.{AreClocksTo}
use Rattle.clock_offsets.proofs.machine_clocks.list_clocks.Given as goal

-- the machines whose first events were looked at
abbrev pub invariant-loop-at : goal.invariant-loop-at
invariant-loop-at l = AreClocksTo l.trace.trace.events l.at l.clocks.items
