use Rattle.counterexamples.proofs.ElementLemmas.{NoneBefore}
use Rattle.counterexamples.proofs.elements.start_of.Given as goal

abbrev pub invariant-segments : goal.invariant-segments
invariant-segments l = NoneBefore l.trace l.task l.element l.index
