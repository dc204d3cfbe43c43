-- What the calls of files gave, reading by reading, in their order.
use Rattle.std.specs.Prelude.{ℕ, ◌≡◌, Bool, true, false, ◌||◌, ◌==◌, List, [], ◌∷◌, ◌++◌, length, drop}
use Rattle.std.specs.Prelude.{All, ⊤}

-- a reading: the name that `open` was called with, the bytes that the reads gave so far, and whether
-- one came to the end
pub record Reading : Type 0 where
  pub name : List ℕ
  pub bytes : List ℕ
  pub at_end : Bool

-- the readings after a call of `open` with this name
abbrev pub after_open : List Reading → List ℕ → List Reading
after_open readings name = readings ++ record { name = name; bytes = []; at_end = false } ∷ []

-- the readings after these bytes came to the last one, and with `ends` its end
unfoldable pub after_bytes : List Reading → List ℕ → Bool → List Reading
after_bytes [] more ends = []
after_bytes (r ∷ []) more ends =
    record { name = r.name; bytes = r.bytes ++ more; at_end = r.at_end || ends } ∷ []
after_bytes (r ∷ next ∷ rest) more ends = r ∷ after_bytes (next ∷ rest) more ends

-- the readings after a read of the open file gave this piece: an empty one is the end
abbrev pub after_read : List Reading → List ℕ → List Reading
after_read readings piece = after_bytes readings piece (length piece == 0)

-- the readings that came after those before
abbrev pub new_readings : List Reading → List Reading → List Reading
new_readings before now = drop (length before) now

-- readings only came: those before are the first of those now
abbrev pub OnlyGrow : List Reading → List Reading → Type 0
OnlyGrow before now = now ≡ before ++ new_readings before now

-- each reading came to its end
abbrev pub AreEnded : List Reading → Type 0
AreEnded readings = All (λ (r : Reading). r.at_end ≡ true) readings

-- each reading but the last did
abbrev pub AreEndedBeforeLast : List Reading → Type 0
AreEndedBeforeLast [] = ⊤
AreEndedBeforeLast (r ∷ []) = ⊤
AreEndedBeforeLast (r ∷ next ∷ rest) = (r.at_end ≡ true) × AreEndedBeforeLast (next ∷ rest)
