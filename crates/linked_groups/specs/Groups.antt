-- Groups of numbers. At first each number is a group of its own; a link joins the groups of two
-- numbers. A group is named by the least number in it.
use Rattle.std.specs.Prelude.{ℕ, ◌==◌, ◌<◌, List, All, fold, map, max, min, if◌then◌else◌, slice_index}
use Rattle.std.specs.List.{range_with_len}

-- the groups of numbers, where those of two groups are in one from now on
abbrev pub groups_with : List ℕ → (one other : ℕ) → List ℕ
groups_with groups one other = map (λ g. if g == max one other then min one other else g) groups

-- the groups of numbers after one more link
abbrev pub groups_after : List ℕ → (ℕ × ℕ) → List ℕ
groups_after groups link =
    groups_with groups (slice_index groups link.0) (slice_index groups link.1)

-- the group of each number below a bound, by links
abbrev pub groups_of : ℕ → List (ℕ × ℕ) → List ℕ
groups_of count links = fold groups_after (range_with_len 0 count) links

-- links lead from numbers below a bound to such numbers
abbrev pub AreLinksBelow : ℕ → List (ℕ × ℕ) → Type 0
AreLinksBelow count links = All (λ (l : ℕ × ℕ). (l.0 < count) × (l.1 < count)) links
