-- The edges of a graph, vertex by vertex, over the names of the vertices' segments.
use Rattle.std.specs.Prelude.{◌≡◌, ◌≢◌, ◌↔◌, ℕ, ◌<◌, List, length, All, AllPairs, Contains}
use Rattle.std.specs.Prelude.{slice_index_or}
use Rattle.std.specs.List.Sorted.{IsStrictlyIncreasing}
use Rattle.model_meet.specs.ModelStates.{ModelState}
use Rattle.model_meet.specs.RelationBits.{KeepsExclusion}

-- the name of a vertex
abbrev pub name_at : List ℕ → ℕ → ℕ
name_at names v = slice_index_or names v 0

-- no two of the names are equal, and all are below the model's
pub record AreKnown (model : ModelState) (names : List ℕ) : Type 0 where
  pub below : All (λ a. a < model.names) names
  pub differ : AllPairs (λ a b. a ≢ b) names

-- the list rises and has exactly the vertices after v and below n whose names are mutually
-- exclusive with that of v by the bits of the model's words
pub record AreExclusive (model : ModelState) (names : List ℕ) (v n : ℕ)
    (list : List ℕ) : Type 0 where
  pub rising : IsStrictlyIncreasing list
  pub later : (w : ℕ) → Contains list w → (v < w) × (w < n)
  pub exact : (w : ℕ) → v < w → w < n → Contains list w
      ↔ KeepsExclusion model.words (name_at names v) (name_at names w)

-- the first n of the lists are those of the vertices
pub record AreLists (model : ModelState) (names : List ℕ) (n : ℕ)
    (lists : List (List ℕ)) : Type 0 where
  pub each : length lists ≡ n
  pub exact : (v : ℕ) (d : List ℕ) → v < n
      → AreExclusive model names v (length names) (slice_index_or lists v d)
