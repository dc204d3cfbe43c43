-- Walks: from each number through those below it.
use Rattle.std.specs.Prelude.{ℕ, zero, suc, ◌<◌, List, [], ◌∷◌, All, length, slice_index_or}
use Rattle.std.specs.List.{flat_map}

module _ (below : List (List ℕ)) where
  -- a number, and then all below it, so many steps down at most
  abbrev pub walk_from : ℕ → ℕ → List ℕ
  walk_from zero x = []
  walk_from (suc n) x = x ∷ flat_map (walk_from n) (slice_index_or below x [])

  -- all that stands below a number does so in fewer steps
  abbrev pub IsShallow : ℕ → ℕ → Type 0
  IsShallow zero x = ⊥
  IsShallow (suc n) x = (x < length below) × All (IsShallow n) (slice_index_or below x [])

  -- each of these numbers, and all below it
  abbrev pub walk_through : List ℕ → List ℕ
  walk_through roots = flat_map (walk_from (length below)) roots
