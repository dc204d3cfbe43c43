use Rattle.counterexamples.proofs.ElementLemmas.{EndSoFar}
use Rattle.counterexamples.proofs.elements.end_of.Given as goal

abbrev pub invariant-segments : goal.invariant-segments
invariant-segments l = EndSoFar l.trace l.task l.element l.index l.end
