use Rattle.task_sharings.proofs.StayLemmas.{NoneOutlasts}
use Rattle.task_sharings.proofs.staying.refutes_itself.Given as goal

abbrev pub invariant-elements : goal.invariant-elements
invariant-elements l = NoneOutlasts l.trace l.task l.elements l.index
