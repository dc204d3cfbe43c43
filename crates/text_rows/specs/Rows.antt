-- Rows of text: tab-separated fields, each row ended by a line feed.
use Rattle.std.specs.Prelude.{ℕ, ◌++◌, List, codes, decimal}
use Rattle.std.specs.List.{join_with_byte}

-- a name and its number, as `traces=3`
abbrev pub figure : List ℕ → ℕ → List ℕ
figure name number = name ++ codes "=" ++ decimal number

-- the bytes of a row
abbrev pub row_of : List (List ℕ) → List ℕ
row_of fields = join_with_byte 9 fields ++ codes "\n"
