use Rattle.task_sharings.proofs.StayLemmas.{NoneBefore}
use Rattle.task_sharings.proofs.staying.start_of.Given as goal

abbrev pub invariant-segments : goal.invariant-segments
invariant-segments l = NoneBefore l.trace l.task l.element l.index
