-- Where boxes stand in the picture, in pixels.
use Rattle.std.specs.Prelude.{◌≡◌, ◌≢◌, ◌⊎◌, ℕ, ◌+◌, ◌*◌, ◌<◌, ◌≤◌, List, length, slice_index_or}
use Rattle.graph_layers.specs.declared.place.Place.{Place}
use Rattle.graph_layers.specs.Layers.{layer_at}

-- how wide and how high a box is, and how far apart boxes are, to the right and down
abbrev pub box_width : ℕ
box_width = 150

abbrev pub box_height : ℕ
box_height = 34

abbrev pub gap : ℕ
gap = 14

abbrev pub layer_gap : ℕ
layer_gap = 30

-- the most boxes beside one another
abbrev pub most_in_row : ℕ
most_in_row = 8

-- the place of a box: its upper left corner
abbrev pub place_at : List Place → ℕ → Place
place_at places box = slice_index_or places box (record { x = 0; y = 0 })

-- the one place is to the left of the other in one row, with a gap between the boxes
abbrev pub IsLeftOf : Place → Place → Type 0
IsLeftOf p q = (p.y ≡ q.y) × (p.x + box_width + gap ≤ q.x)

-- the one place is in a row above the other, with a gap between the rows
abbrev pub IsAbove : Place → Place → Type 0
IsAbove p q = p.y + box_height + layer_gap ≤ q.y

-- a place for each box: within the picture, apart from all others, and above all boxes of lower
-- layers; the picture has room for at most eight boxes beside one another
pub record ArePlaces (count : ℕ) (layers : List ℕ) (places : List Place) (width height : ℕ)
    : Type 0 where
  pub size : length places ≡ count
  pub across : (a : ℕ) → a < count → (place_at places a).x + box_width ≤ width
  pub along : (a : ℕ) → a < count → (place_at places a).y + box_height + layer_gap ≤ height
  pub apart : (a b : ℕ) → a < count → b < count → a ≢ b
      → IsLeftOf (place_at places a) (place_at places b)
      ⊎ (IsLeftOf (place_at places b) (place_at places a)
      ⊎ (IsAbove (place_at places a) (place_at places b)
      ⊎ IsAbove (place_at places b) (place_at places a)))
  pub down : (a b : ℕ) → a < count → b < count → layer_at layers a < layer_at layers b
      → IsAbove (place_at places a) (place_at places b)
  pub narrow : width ≤ most_in_row * (box_width + gap)
