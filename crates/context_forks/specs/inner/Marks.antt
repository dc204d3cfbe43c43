-- Marks of contexts.
use Rattle.std.specs.Prelude.{ℕ, ◌≡◌, ◌<◌, ◌||◌, List, Bool, false, length, slice_index_or}

-- what passes a test is marked besides what was
abbrev pub AreMarked : (ℕ → Bool) → (old new : List Bool) → Type 0
AreMarked test old new = (x : ℕ) → x < length old
    → slice_index_or new x false ≡ (slice_index_or old x false || test x)
