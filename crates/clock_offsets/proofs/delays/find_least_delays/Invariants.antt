use Rattle.clock_offsets.specs.inner.Delays.{AreLeast}
use Rattle.clock_offsets.proofs.MessageLemmas.{HasDelayTo}
use Rattle.clock_offsets.proofs.delays.find_least_delays.Given as goal

abbrev pub invariant-loop-at : goal.invariant-loop-at
invariant-loop-at l = AreLeast (HasDelayTo l.trace.trace.events l.numbers l.at) l.least
