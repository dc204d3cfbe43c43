-- What the private steps of the walk along the first longest chain keep. Private contracts alone
-- cite this file.
use Rattle.std.specs.Prelude.{◌≡◌, ◌≢◌, ℕ, ◌<◌, ◌≤◌, List, ◌∷◌, slice_index, Contains}
use Rattle.weighted_dag.specs.Graphs.{Graph}
use Rattle.weighted_dag.specs.Chains.{IsChain, chain_length, NoneIsLonger, IsBefore}

-- v is the least of the indices at which the number is n
pub record IsFirstIndexOf (numbers indices : List ℕ) (n v : ℕ) : Type 0 where
  pub index : Contains indices v
  pub is : slice_index numbers v ≡ n
  pub first : (x : ℕ) → Contains indices x → x < v → slice_index numbers x ≢ n

-- c is the first of the longest chains, whose length is n
pub record IsFirstLongest (g : Graph) (n : ℕ) (c : List ℕ) : Type 0 where
  pub chain : IsChain g c
  pub is : chain_length g c ≡ n
  pub none_longer : NoneIsLonger g n
  pub first : (d : List ℕ) → IsChain g d → chain_length g d ≡ n → ¬ IsBefore d c

-- c is the first of the longest lists that go on from the vertex v, and their length is n
pub record IsFirstAfter (g : Graph) (v n : ℕ) (c : List ℕ) : Type 0 where
  pub chain : IsChain g (v ∷ c)
  pub is : chain_length g c ≡ n
  pub none_longer : (d : List ℕ) → IsChain g (v ∷ d) → chain_length g d ≤ n
  pub first : (d : List ℕ) → IsChain g (v ∷ d) → chain_length g d ≡ n → ¬ IsBefore d c
