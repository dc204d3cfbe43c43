-- How much the longest length of a graph loses once one vertex weighs less: the longest length over
-- the same edges with other weights, as predictions have it. This is the project's own.
use Rattle.std.specs.Prelude.{ℕ, ◌+◌, ◌/◌, slice_set}
use Rattle.path_gains.specs.declared.gain.Gain.{Gain}
use Rattle.weighted_dag.specs.Chains.{IsLongestLength}
use Rattle.weighted_dag.specs.Graphs.{Graph, weight_of, with_weights}

-- the graph with the weight w at the vertex v
abbrev pub with_weight_at : Graph → ℕ → ℕ → Graph
with_weight_at g v w = with_weights g (slice_set g.weights v w)

-- the longest length of the graph is greater by this much than with the weight w at the vertex v
pub record IsLoss (g : Graph) (v w loss : ℕ) : Type 0 where
  pub after : ℕ
  pub changed : IsLongestLength (with_weight_at g v w) after
  pub before : IsLongestLength g (after + loss)

-- what the longest length loses once v weighs nothing, and once it weighs half, rounded down
pub record IsGain (g : Graph) (v : ℕ) (gain : Gain) : Type 0 where
  pub none : IsLoss g v 0 gain.none
  pub half : IsLoss g v (weight_of g v / 2) gain.half
