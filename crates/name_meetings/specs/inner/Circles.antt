-- The names in a circle. The entry of two of them stands in the row of the one from which the
-- other is at most half of the circle away, so all rows are equally long. Opposite names of an even
-- circle stand in both rows.
use Rattle.std.specs.Prelude.{ℕ, ◌+◌, ◌-◌, ◌*◌, ◌/◌, ◌<◌, ◌≤◌, Bool, nat_le, nat_lt, if◌then◌else◌}

-- how many steps the second name stands behind the first
abbrev pub steps_between : ℕ → ℕ → ℕ → ℕ
steps_between names a b = if nat_lt b a then b + names - a else b - a

-- the second stands in the row of the first
abbrev pub is_in_row : ℕ → ℕ → ℕ → Bool
is_in_row names a b = nat_le (2 * steps_between names a b) names

-- how many entries a row has
abbrev pub width : ℕ → ℕ
width names = names / 2 + 1

-- the place of the entry of two names among those of sixteen rows, of which the first has this name
abbrev pub place : ℕ → ℕ → ℕ → ℕ → ℕ
place names first a b = (a - first) * width names + steps_between names a b

-- the two have an entry among those of these sixteen rows
pub record HasEntry (names first a b : ℕ) : Type 0 where
  pub from : first ≤ a
  pub to : a < first + 16
  pub one : a < names
  pub other : b < names
  pub near : 2 * steps_between names a b ≤ names
