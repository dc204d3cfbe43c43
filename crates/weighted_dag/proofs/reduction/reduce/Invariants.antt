use Rattle.std.proofs.Common.{◌≡◌, length}
use Rattle.weighted_dag.specs.Graphs.{order_of}
use Rattle.weighted_dag.specs.inner.BitSets.{words_for}
use Rattle.weighted_dag.proofs.ReducingLemmas.{IsReducedFrom}
use Rattle.weighted_dag.proofs.reduction.reduce.Given as goal

abbrev pub invariant-vertices : goal.invariant-vertices
invariant-vertices l =
    IsReducedFrom l.dag l.reduced l.vertex l.reached.items × (length l.set ≡ words_for (order_of l.dag))
