use Rattle.std.proofs.Common.{map}
use Rattle.weighted_dag.specs.Graphs.{with_weights}
use Rattle.weighted_dag.proofs.LengthLemmas.{IsKnownFrom}
use Rattle.weighted_dag.proofs.lengths.lengths_over.Given as goal

abbrev pub invariant-vertices : goal.invariant-vertices
invariant-vertices g l =
    IsKnownFrom (with_weights l.dag l.weights) l.vertex (map g.L.Length.value l.from.items) (g.L.Length.value l.longest)
