-- Where numbers stand first.
use Rattle.std.specs.Prelude.{ℕ, ◌≡◌, ◌<◌, ◌==◌, List, Option, Some, None, length}
use Rattle.std.specs.Prelude.{position, slice_index_or, slice_set}

-- the place of a number that stands at an index too
abbrev pub place_with : Option ℕ → ℕ → Option ℕ
place_with None at = Some at
place_with (Some first) at = Some first

-- the places, where a number stands at an index too
abbrev pub with_place : List (Option ℕ) → ℕ → ℕ → List (Option ℕ)
with_place places n at = slice_set places n (place_with (slice_index_or places n None) at)

-- the place of each number is where it stands first in this list
abbrev pub ArePlaces : List ℕ → List (Option ℕ) → Type 0
ArePlaces numbers places = (k : ℕ) → k < length places
    → slice_index_or places k None ≡ position (λ m. m == k) numbers
