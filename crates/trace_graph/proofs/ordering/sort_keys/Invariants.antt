use Rattle.trace_graph.proofs.KeyLemmas.{AreMadeTo}
use Rattle.trace_graph.proofs.ordering.sort_keys.Given as goal

abbrev pub invariant-loop-at : goal.invariant-loop-at
invariant-loop-at l = AreMadeTo l.segments l.at l.keys.items
