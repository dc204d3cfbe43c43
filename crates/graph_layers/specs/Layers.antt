-- Layers of boxes by the relations between them. Boxes are the numbers below a count, and relations
-- are pairs of them.
use Rattle.std.specs.Prelude.{◌≡◌, ◌⊎◌, ℕ, ◌+◌, ◌<◌, List, Contains, length, slice_index}
use Rattle.evidence_rules.specs.Reaching.{Reaches}

-- the layer of a box, from 0, which is the top one
abbrev pub layer_at : List ℕ → ℕ → ℕ
layer_at layers box = slice_index layers box

-- a layer for each box. A relation leads down, or a chain leads back, and then both boxes are in
-- one layer; and each box below the top layer is reached from the layer next above
pub record AreLayers (count : ℕ) (pairs : List (ℕ × ℕ)) (layers : List ℕ) : Type 0 where
  pub size : length layers ≡ count
  pub down : (a b : ℕ) → Contains pairs (a, b) → (layer_at layers a < layer_at layers b)
      ⊎ ((layer_at layers a ≡ layer_at layers b) × Reaches pairs b a)
  pub tight : (b : ℕ) → b < count → 0 < layer_at layers b
      → (a : ℕ) × (a < count) × Reaches pairs a b × (layer_at layers a + 1 ≡ layer_at layers b)
