-- What the test of finished lists of successors looks at. Private contracts alone cite this file.
use Rattle.std.specs.Prelude.{ℕ, ◌<◌, List, All}
use Rattle.std.specs.List.Sorted.{IsStrictlyIncreasing}

-- a list of successors of the vertex v in a graph with n vertices
pub record AreSuccessors (v n : ℕ) (list : List ℕ) : Type 0 where
  pub later : All (λ s. v < s) list
  pub within : All (λ s. s < n) list
  pub rising : IsStrictlyIncreasing list
