use Rattle.trace_quality.specs.Measures.{counted, counted_of}
use Rattle.trace_quality.proofs.CountLemmas.{IsTallyBelow}
use Rattle.trace_quality.proofs.tallies.add_up.Given as goal

-- the sum of what the traces so far count
abbrev pub invariant-facts : goal.invariant-facts
invariant-facts l = IsTallyBelow (counted l.measure) (counted_of l.measure) l.facts l.index l.sum
