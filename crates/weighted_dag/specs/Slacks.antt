-- The slack of a vertex, by the longest length of the graph with its weight raised (M. Chow et al.,
-- "The Mystery Machine", OSDI 2014, section 3.4).
use Rattle.std.specs.Prelude.{ℕ, ◌+◌, ◌≤◌, slice_set}
use Rattle.weighted_dag.specs.Graphs.{Graph, weight_of, with_weights}
use Rattle.weighted_dag.specs.Chains.{IsLongestLength}

-- the graph with the weight of the vertex v greater by n
abbrev pub raised : Graph → ℕ → ℕ → Graph
raised g v n = with_weights g (slice_set g.weights v (weight_of g v + n))

-- with the weight of v greater by n the longest length is the longest length without
abbrev pub KeepsLongest : Graph → ℕ → ℕ → Type 0
KeepsLongest g v n = (most : ℕ) × IsLongestLength g most × IsLongestLength (raised g v n) most

-- the slack of v: the greatest number by which its weight can rise so that the longest length stays
pub record IsSlack (g : Graph) (v slack : ℕ) : Type 0 where
  pub keeps : KeepsLongest g v slack
  pub greatest : (n : ℕ) → KeepsLongest g v n → n ≤ slack
