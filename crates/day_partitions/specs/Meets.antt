-- How many rows of the tree of days a counted call meets.
use Rattle.std.specs.Prelude.{ℕ, ◌≤◌, if◌then◌else◌, List}
use Rattle.day_partitions.specs.Books.{KeptDay, has_day}

-- an add meets the six rows from its day's leaf to the root, and before them the leaf itself where
-- the day is kept
abbrev pub meets_of_add : List KeptDay → ℕ → ℕ
meets_of_add days day = if has_day days day then 7 else 6

-- a drop meets the six rows from its day's leaf to the root, and none where the day is not kept
abbrev pub meets_of_drop : List KeptDay → ℕ → ℕ
meets_of_drop days day = if has_day days day then 6 else 0

-- an add meets at most seven rows, and a drop at most six
abbrev pub FewAreMet : Type 0
FewAreMet = (days : List KeptDay) (day : ℕ) →
    (meets_of_add days day ≤ 7) × (meets_of_drop days day ≤ 6)
