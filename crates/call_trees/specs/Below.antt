-- What stands below a number, by the number above each.
use Rattle.std.specs.Prelude.{ℕ, ◌==◌, List, [], Bool, false, Option, Some, None, filter, map}
use Rattle.std.specs.Prelude.{slice_index_or, length}
use Rattle.std.specs.List.{range_with_len}

-- the option is this number
abbrev pub is_number : ℕ → Option ℕ → Bool
is_number n None = false
is_number n (Some m) = m == n

-- the numbers, in this order, above which this one stands
abbrev pub below_one : List (Option ℕ) → List ℕ → ℕ → List ℕ
below_one above order n = filter (λ j. is_number n (slice_index_or above j None)) order

-- for each number those below it, in this order
abbrev pub below_all : List (Option ℕ) → List ℕ → List (List ℕ)
below_all above order = map (below_one above order) (range_with_len 0 (length above))
