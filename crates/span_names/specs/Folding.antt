-- Names that differ in ids alone, made one.
use Rattle.std.specs.Prelude.{ℕ, ◌==◌, ◌&&◌, ◌||◌, ◌++◌, List, [], ◌∷◌, Bool, length}
use Rattle.std.specs.Prelude.{nat_le, codes, if◌then◌else◌}
use Rattle.std.specs.Char.{is_ascii_digit}
use Rattle.std.specs.List.{list_all}
use Rattle.span_names.specs.Names.{is_number}

-- a digit in base 16
abbrev pub is_hex_digit : ℕ → Bool
is_hex_digit byte =
    is_ascii_digit byte || ((nat_le 97 byte && nat_le byte 102) || (nat_le 65 byte && nat_le byte 70))

-- a byte between words and between segments of a path
abbrev pub is_between : ℕ → Bool
is_between byte = byte == 32 || byte == 47

-- a word that names one of many alike: digits, or eight and more digits in base 16
abbrev pub is_id : List ℕ → Bool
is_id word = is_number word || (nat_le 8 (length word) && list_all is_hex_digit word)

-- what stands for a word
abbrev pub folded_word : List ℕ → List ℕ
folded_word word = if is_id word then codes "{}" else word

-- a text whose first word begins with these bytes
abbrev pub folded_from : List ℕ → List ℕ → List ℕ
folded_from word [] = folded_word word
folded_from word (c ∷ cs) =
    if is_between c then folded_word word ++ c ∷ folded_from [] cs else folded_from (word ++ c ∷ []) cs

-- a name in which each word and each segment of a path that is an id stands as `{}`
abbrev pub folded_name : List ℕ → List ℕ
folded_name name = folded_from [] name
