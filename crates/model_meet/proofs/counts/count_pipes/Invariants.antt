use Rattle.model_meet.specs.inner.Beside.{ArePipesBelow}
use Rattle.model_meet.proofs.counts.count_pipes.Given as goal

abbrev pub invariant-loop-task : goal.invariant-loop-task
invariant-loop-task l = ArePipesBelow l.model.words l.task l.pipes
