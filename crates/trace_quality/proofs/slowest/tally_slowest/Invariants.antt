use Rattle.trace_quality.specs.Slowest.{counts_slow, counts_slow_refused}
use Rattle.trace_quality.proofs.CountLemmas.{IsTallyBelow}
use Rattle.trace_quality.proofs.slowest.tally_slowest.Given as goal

-- what the traces so far count
abbrev pub invariant-facts : goal.invariant-facts
invariant-facts l = IsTallyBelow (counts_slow_refused l.facts) (counts_slow l.facts) l.facts l.index l.sum
