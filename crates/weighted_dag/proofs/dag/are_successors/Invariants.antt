use Rattle.weighted_dag.proofs.SuccessorListLemmas.{IsInOrderTo}
use Rattle.weighted_dag.proofs.dag.are_successors.Given as goal

abbrev pub invariant-successors : goal.invariant-successors
invariant-successors l = IsInOrderTo l.vertex l.order l.list l.successor-index l.above
