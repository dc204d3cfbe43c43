use Rattle.model_meet.specs.inner.Beside.{ArePipesBeside}
use Rattle.model_meet.proofs.counts.count_pipes_beside.Given as goal

abbrev pub invariant-loop-other : goal.invariant-loop-other
invariant-loop-other l = ArePipesBeside l.model.words l.task l.other l.pipes
