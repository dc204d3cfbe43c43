-- Chains of a graph, their lengths, and which of them is the first longest. The longest chain is the
-- critical path of M. Chow et al., "The Mystery Machine", OSDI 2014, section 3.4; the order among
-- equal chains is this project's own.
use Rattle.std.specs.Prelude.{◌≡◌, ℕ, ◌<◌, ◌≤◌, List, [], ◌∷◌, sum_by, ◌⊎◌}
use Rattle.weighted_dag.specs.Graphs.{Graph, order_of, weight_of, IsEdge}

-- an edge leads from the vertex to the first of the list, if there is one
abbrev pub LeadsTo : Graph → ℕ → List ℕ → Type 0
LeadsTo g v [] = Unit {0}
LeadsTo g v (w ∷ _) = IsEdge g v w

-- a list of vertices of the graph, possibly empty, with an edge between each two neighbours
abbrev pub IsChain : Graph → List ℕ → Type 0
IsChain g [] = Unit {0}
IsChain g (v ∷ c) = (v < order_of g) × LeadsTo g v c × IsChain g c

-- the length of a chain: the sum of its weights
abbrev pub chain_length : Graph → List ℕ → ℕ
chain_length g c = sum_by (weight_of g) c

-- no chain of the graph is longer than n
abbrev pub NoneIsLonger : Graph → ℕ → Type 0
NoneIsLonger g n = (c : List ℕ) → IsChain g c → chain_length g c ≤ n

-- each chain of the graph is shorter than n
abbrev pub AllAreShorter : Graph → ℕ → Type 0
AllAreShorter g n = (c : List ℕ) → IsChain g c → chain_length g c < n

-- a longest chain: no chain of the graph is longer
pub record IsLongest (g : Graph) (c : List ℕ) : Type 0 where
  pub chain : IsChain g c
  pub none_longer : NoneIsLonger g (chain_length g c)

-- lexicographic order: the lesser number at the first difference comes first, and a prefix before
-- the list
abbrev pub IsBefore : List ℕ → List ℕ → Type 0
IsBefore c [] = ⊥
IsBefore [] (_ ∷ _) = Unit {0}
IsBefore (a ∷ c) (b ∷ d) = (a < b) ⊎ ((a ≡ b) × IsBefore c d)

-- no longest chain of the graph comes before the list c
abbrev pub NoLongestIsBefore : Graph → List ℕ → Type 0
NoLongestIsBefore g c = (d : List ℕ) → IsLongest g d → ¬ IsBefore d c

-- the longest length of a graph: the length of its longest chains
abbrev pub IsLongestLength : Graph → ℕ → Type 0
IsLongestLength g n = (c : List ℕ) × IsLongest g c × (chain_length g c ≡ n)

-- the greatest length of a chain that begins with the vertex v
pub record IsLongestFrom (g : Graph) (v n : ℕ) : Type 0 where
  pub reached : (c : List ℕ) × IsChain g (v ∷ c) × (chain_length g (v ∷ c) ≡ n)
  pub none_longer : (c : List ℕ) → IsChain g (v ∷ c) → chain_length g (v ∷ c) ≤ n
