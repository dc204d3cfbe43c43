-- The grammar of the arguments: `[PAGE]`.
use Rattle.std.specs.Prelude.{ℕ, ◌==◌, List, [], ◌∷◌, Bool, codes, if◌then◌else◌, length, not}
use Rattle.std.specs.Prelude.{false, true}
use Rattle.std.specs.Str.{bytes_eq}

-- the arguments are in the grammar: none, or one that is not empty
abbrev pub is_in_grammar : List (List ℕ) → Bool
is_in_grammar [] = true
is_in_grammar (word ∷ []) = not (length word == 0)
is_in_grammar (word ∷ next ∷ words) = false

-- the file that an argument names: `-` is standard input
abbrev pub file_named : List ℕ → List ℕ
file_named word = if bytes_eq word (codes "-") then codes "/dev/stdin" else word

-- the file of rows: standard input where there is no argument
abbrev pub page_name : List (List ℕ) → List ℕ
page_name [] = codes "/dev/stdin"
page_name (word ∷ words) = file_named word
