use Rattle.task_sharings.proofs.StayLemmas.{EndSoFar}
use Rattle.task_sharings.proofs.staying.end_of.Given as goal

abbrev pub invariant-segments : goal.invariant-segments
invariant-segments l = EndSoFar l.trace l.task l.element l.index l.end
