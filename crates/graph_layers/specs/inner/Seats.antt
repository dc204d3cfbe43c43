-- Where boxes stand: by layer, and within one by a key.
use Rattle.std.specs.Prelude.{◌≡◌, ℕ, ◌+◌, ◌-◌, ◌*◌, ◌/◌, ◌%◌, ◌<◌, ◌≤◌, ◌==◌, ◌&&◌, ◌||◌}
use Rattle.std.specs.Prelude.{Bool, List, zero, suc, length, max, min, nat_lt, slice_index}
use Rattle.graph_layers.specs.declared.place.Place.{Place}
use Rattle.graph_layers.specs.Places.{place_at}
use Rattle.graph_layers.specs.inner.Depths.{tally}

-- the one box stands before the other in its layer: it has a smaller key, or the same and a smaller
-- number
abbrev pub is_before : List ℕ → List ℕ → ℕ → ℕ → Bool
is_before layers keys a b = slice_index layers a == slice_index layers b
    && (nat_lt (slice_index keys a) (slice_index keys b)
    || (slice_index keys a == slice_index keys b && nat_lt a b))

-- how many boxes of its layer stand before a box
abbrev pub rank_of : ℕ → List ℕ → List ℕ → ℕ → ℕ
rank_of count layers keys box = tally (λ a. is_before layers keys a box) count

-- how many boxes a layer has, and how many rows of eight
abbrev pub size_of : ℕ → List ℕ → ℕ → ℕ
size_of count layers layer = tally (λ a. slice_index layers a == layer) count

abbrev pub rows_of : ℕ → List ℕ → ℕ → ℕ
rows_of count layers layer = (size_of count layers layer + 7) / 8

-- how many rows the layers above a layer have
abbrev pub rows_above : ℕ → List ℕ → ℕ → ℕ
rows_above count layers zero = 0
rows_above count layers (suc layer) =
    rows_above count layers layer + rows_of count layers layer

-- how many boxes the row of a box has, from how many its layer has and how many stand before it
abbrev pub row_length : (size rank : ℕ) → ℕ
row_length size rank = min 8 (size - rank / 8 * 8)

-- how many boxes stand beside one another at most, of the first so many boxes
abbrev pub widest_of : List ℕ → ℕ → ℕ
widest_of layers zero = 0
widest_of layers (suc box) =
    max (widest_of layers box) (min 8 (size_of (length layers) layers (slice_index layers box)))

-- the place of a box with this rank in a layer of so many boxes, under so many rows
abbrev pub seat_in : (widest size rank rows : ℕ) → Place
seat_in widest size rank rows = record {
  x = 4 + 82 * (widest - row_length size rank) + 164 * (rank % 8);
  y = 4 + 64 * (rows + rank / 8);
}

-- the place of a box: its row is in the middle of the widest one
abbrev pub seat_of : (layers keys : List ℕ) → (widest box : ℕ) → Place
seat_of layers keys widest box =
    seat_in widest (size_of (length layers) layers (slice_index layers box))
    (rank_of (length layers) layers keys box)
    (rows_above (length layers) layers (slice_index layers box))

-- the places of the first so many boxes
pub record AreSeats (layers keys : List ℕ) (count : ℕ) (places : List Place) : Type 0 where
  pub size : length places ≡ count
  pub each : (a : ℕ) → a < count
      → place_at places a ≡ seat_of layers keys (widest_of layers (length layers)) a

-- no place is far down
abbrev pub AreLow : List Place → Type 0
AreLow places = (a : ℕ) → a < length places → (place_at places a).y ≤ 200000

-- places by some keys
pub record IsPlaced (layers : List ℕ) (places : List Place) : Type 0 where
  pub keys : List ℕ
  pub seats : AreSeats layers keys (length layers) places
  pub low : AreLow places
