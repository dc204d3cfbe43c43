-- The places of numbers in groups. Groups, numbers and places are the caller's.
use Rattle.std.specs.Prelude.{ℕ, ◌==◌, ◌&&◌, if◌then◌else◌, Bool, Option, Some, None, is_some}
use Rattle.std.specs.Prelude.{List, [], ◌∷◌}

-- a number of a group, and its place
pub record NumberPlace : Type 0 where
  pub group : ℕ
  pub number : ℕ
  pub place : ℕ

-- the place is of this number of this group
abbrev pub is_of : ℕ → ℕ → NumberPlace → Bool
is_of group number p = (p.group == group) && (p.number == number)

-- the place that a number of a group has in a list of places
abbrev pub place_in : List NumberPlace → ℕ → ℕ → Option ℕ
place_in [] group number = None
place_in (p ∷ ps) group number =
    if is_of group number p then Some p.place else place_in ps group number

-- the places once a number of a group was given one, which it keeps where it has one already
abbrev pub places_with : List NumberPlace → ℕ → ℕ → ℕ → List NumberPlace
places_with ps group number place =
    if is_some (place_in ps group number) then ps
    else record { group = group; number = number; place = place } ∷ ps
