use Rattle.std.proofs.Common.{sum, ap, ◌∙◌}
use Rattle.weighted_dag.proofs.dag.Dag.total.Goals as goal

pub returns-clause-sum : goal.returns-clause-sum
returns-clause-sum c = c.total_with.ensures.sum ∙ ap sum c.weights.ensures.weights

pub returns-clause-none_longer : goal.returns-clause-none_longer
returns-clause-none_longer c = rw c.weights.ensures.weights at c.total_with.ensures.none_longer
