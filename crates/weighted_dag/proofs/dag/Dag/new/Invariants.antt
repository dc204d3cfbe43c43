use Rattle.std.proofs.Common.{◌≡◌, [], replicate}
use Rattle.weighted_dag.proofs.dag.Dag.new.Given as goal

abbrev pub invariant-vertices : goal.invariant-vertices
invariant-vertices l = l.successors.items ≡ replicate l.counter []
