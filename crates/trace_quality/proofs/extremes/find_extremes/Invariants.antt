use Rattle.trace_quality.proofs.ExtremeLemmas.{AreExtremesBelow}
use Rattle.trace_quality.proofs.extremes.find_extremes.Given as goal

-- those of the traces so far
abbrev pub invariant-facts : goal.invariant-facts
invariant-facts l = AreExtremesBelow l.facts l.index l.times
