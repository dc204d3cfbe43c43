-- How a list is cut into pieces by halving.
use Rattle.std.specs.Prelude.{ℕ, ◌+◌, ◌*◌, ◌/◌, ◌^◌, ◌≤◌, max}

-- a list of so many items that is halved while both halves have at least `least` makes at most so
-- many pieces: after k halvings the longest has fewer than twice `least`, and is not halved again
abbrev pub MakesAtMost : ℕ → ℕ → ℕ → Type 0
MakesAtMost most length least =
    (k : ℕ) × (2 ^ k ≤ max 1 most) × (length + 2 ^ k ≤ 2 * least * 2 ^ k)

-- no piece needs more than that: it is not longer than an even part for each of so many workers, by
-- any number of halvings that makes no more pieces, but where fewer items are not worth a piece
abbrev pub SharesAmong : ℕ → ℕ → ℕ → ℕ → Type 0
SharesAmong most length fewest least =
    (k : ℕ) → 2 ^ k ≤ max 1 most → least ≤ max (max 2 fewest) (length / 2 ^ k)
