-- Which places hold words.
use Rattle.std.specs.Prelude.{◌≡◌, ℕ, ◌<◌, List, [], ◌∷◌, map, length, get_or, Option, Some, None}

-- the words that are there
abbrev pub words_of : List (Option ℕ) → List ℕ
words_of [] = []
words_of (None ∷ cs) = words_of cs
words_of (Some x ∷ cs) = x ∷ words_of cs

-- there is a place with this index, and it is empty
abbrev pub IsEmptyAt : ℕ → List (Option ℕ) → Type 0
IsEmptyAt index cs = (index < length cs) × (get_or cs index None ≡ None)

-- there are len places, and each holds a word
abbrev pub IsFilled : ℕ → List (Option ℕ) → Type 0
IsFilled len cs = (length cs ≡ len) × (cs ≡ map Some (words_of cs))
