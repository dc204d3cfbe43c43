-- Where a time lies on a scale whose steps grow: 1, 2 and 5 of each power of ten from 1 µs on.
use Rattle.std.specs.Prelude.{ℕ, ◌≤◌, ◌+◌, ◌-◌, ◌*◌, ◌/◌, ◌==◌, List, [], ◌∷◌, if◌then◌else◌}
use Rattle.std.specs.Prelude.{sum_by}
use Rattle.picture_parts.specs.Places.{part_of}
use Rattle.picture_parts.specs.declared.span.Span.{Span}

-- the powers of ten that begin a decade, in nanoseconds: 1 µs to 10,000 s
abbrev pub decades : List ℕ
decades = 1000 ∷ 10000 ∷ 100000 ∷ 1000000 ∷ 10000000 ∷ 100000000 ∷ 1000000000 ∷ 10000000000
    ∷ 100000000000 ∷ 1000000000000 ∷ 10000000000000 ∷ []

-- how far a time reaches into the decade from a power of ten on: each of its three steps, from 1 to
-- 2, from 2 to 5 and from 5 to 10, is as wide as the others
abbrev pub decade_part : (n power : ℕ) → ℕ
decade_part n power = part_of 1000 (n - power) power
    + (part_of 1000 (n - 2 * power) (3 * power) + part_of 1000 (n - 5 * power) (5 * power))

-- how far a time reaches into all decades, in thousandths of a step
abbrev pub steps_to : ℕ → ℕ
steps_to n = sum_by (decade_part n) decades

-- where a scale begins that has to show this time: at the power of ten at or before it
abbrev pub base_of : (least : ℕ) → ℕ
base_of least = steps_to least / 3000 * 3000

-- the place of a time on the width of a picture that shows times from `least` to `full`: 0 stands
-- apart at the left
unfoldable pub room_place : (least full n : ℕ) → ℕ
room_place least full n = if n == 0 then 2000
    else 12000 + part_of 84000 (steps_to n - base_of least) (steps_to full - base_of least)

-- the bar from one time to another
unfoldable pub room_span : (least full from to : ℕ) → Span
room_span least full from to = record {
  x = room_place least full from;
  width = room_place least full to - room_place least full from;
}

-- a place is within the width
abbrev pub RoomPlaceIsWithin : Type 0
RoomPlaceIsWithin = (least full n : ℕ) → room_place least full n ≤ 96000

-- a longer time lies no further to the left
abbrev pub RoomPlacesKeepOrder : Type 0
RoomPlacesKeepOrder =
    (least full n m : ℕ) → n ≤ m → room_place least full n ≤ room_place least full m

-- a bar is within the width
abbrev pub RoomSpanIsWithin : Type 0
RoomSpanIsWithin = (least full from to : ℕ)
    → (room_span least full from to).x + (room_span least full from to).width ≤ 96000
