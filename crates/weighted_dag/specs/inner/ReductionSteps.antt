-- What the private steps of the reduction keep. Private contracts alone cite this file.
use Rattle.std.specs.Prelude.{◌≡◌, ℕ, ◌-◌, ◌*◌, ◌<◌, ◌≤◌, List, ◌↔◌, ◌⊎◌, length}
use Rattle.weighted_dag.specs.Graphs.{Graph, order_of, IsEdge}
use Rattle.weighted_dag.specs.Reductions.{IsReachable, HasDetour, IsKeptEdge}
use Rattle.weighted_dag.specs.inner.BitSets.{Has, words_for, set_at}

-- the edges of the vertex a in the graph r are those that are kept of g, and each other edge has a
-- detour
pub record IsReducedAt (g r : Graph) (a : ℕ) : Type 0 where
  pub kept : (b : ℕ) → IsEdge r a b → IsKeptEdge g a b
  pub others : (b : ℕ) → IsEdge g a b → IsEdge r a b ⊎ HasDetour g a b

-- a set of the vertices that can be reached from the vertex a
pub record IsReachOf (g : Graph) (a : ℕ) (set : List ℕ) : Type 0 where
  pub room : length set ≡ words_for (order_of g)
  pub members : (b : ℕ) → Has set b ↔ IsReachable g a b

-- the sets of the vertices that can be reached from each vertex from v on, that of the last vertex
-- first
pub record AreReachSets (g : Graph) (v : ℕ) (sets : List ℕ) : Type 0 where
  pub room : length sets ≡ (order_of g - v) * words_for (order_of g)
  pub each : (k : ℕ) → v ≤ k → k < order_of g
      → IsReachOf g k (set_at (words_for (order_of g)) sets (order_of g - 1 - k))
