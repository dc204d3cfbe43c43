-- What the private steps towards the slacks keep. Private contracts alone cite this file.
use Rattle.std.specs.Prelude.{◌≡◌, ℕ, ◌≤◌, max, List, [], ◌∷◌, slice_index, Contains, ◌⊎◌}
use Rattle.weighted_dag.specs.Graphs.{Graph, IsEdge}
use Rattle.weighted_dag.specs.Chains.{chain_length}

-- the vertices of the list lead to v, the nearest first
abbrev pub LeadsInto : Graph → ℕ → List ℕ → Type 0
LeadsInto g v [] = Unit {0}
LeadsInto g v (u ∷ c) = IsEdge g u v × LeadsInto g u c

-- the greatest length of what leads to v
pub record IsLongestInto (g : Graph) (v n : ℕ) : Type 0 where
  pub reached : (c : List ℕ) × LeadsInto g v c × (chain_length g c ≡ n)
  pub none_longer : (c : List ℕ) → LeadsInto g v c → chain_length g c ≤ n

-- the number at k was raised to the least where k is among the indices, and else stayed
abbrev pub RaisesAt : List ℕ → ℕ → List ℕ → List ℕ → ℕ → Type 0
RaisesAt indices least old new k =
    (Contains indices k × (slice_index new k ≡ max (slice_index old k) least))
    ⊎ ((¬ Contains indices k) × (slice_index new k ≡ slice_index old k))
