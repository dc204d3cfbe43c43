-- Which edges of a graph its transitive reduction keeps. This rule is the project's own.
use Rattle.std.specs.Prelude.{ℕ, List, [], ◌∷◌, ◌++◌}
use Rattle.weighted_dag.specs.Graphs.{Graph, IsEdge}
use Rattle.weighted_dag.specs.Chains.{IsChain}

-- a path of one or more edges leads from a to b
abbrev pub IsReachable : Graph → ℕ → ℕ → Type 0
IsReachable g a b = (between : List ℕ) × IsChain g (a ∷ between ++ b ∷ [])

-- a path of two or more edges leads from a to b
abbrev pub HasDetour : Graph → ℕ → ℕ → Type 0
HasDetour g a b = (x : ℕ) × (between : List ℕ) × IsChain g (a ∷ x ∷ between ++ b ∷ [])

-- an edge that the reduced graph keeps: no path of two or more edges leads from its start to its
-- end
abbrev pub IsKeptEdge : Graph → ℕ → ℕ → Type 0
IsKeptEdge g a b = IsEdge g a b × ¬ HasDetour g a b
