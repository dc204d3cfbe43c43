-- Sets of numbers as words of 64 bits. Private contracts alone cite this file.
use Rattle.std.specs.Prelude.{◌≡◌, ℕ, ◌+◌, ◌*◌, ◌/◌, ◌%◌, List, slice_index, slice_range}
use Rattle.std.specs.Int.{bit_at}

-- the set has the number k: its bit is 1
abbrev pub Has : List ℕ → ℕ → Type 0
Has words k = bit_at (slice_index words (k / 64)) (k % 64) ≡ 1

-- how many words a set of numbers below n has
abbrev pub words_for : ℕ → ℕ
words_for n = n / 64 + 1

-- the set number i of sets of w words each, one after the other
abbrev pub set_at : ℕ → List ℕ → ℕ → List ℕ
set_at w words i = slice_range words (i * w) (i * w + w)
