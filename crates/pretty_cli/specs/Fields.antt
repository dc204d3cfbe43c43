-- The lines of a text, the fields of a line, and the numbers in them.
use Rattle.std.specs.Prelude.{ℕ, ◌-◌, ◌^◌, ◌==◌, ◌&&◌, [], List, not}
use Rattle.std.specs.Prelude.{drop, if◌then◌else◌, length, map, nat_eq, nat_lt}
use Rattle.std.specs.Prelude.{slice_index_or}
use Rattle.std.specs.Borrow.{Bor}
use Rattle.std.specs.Char.{is_ascii_digit}
use Rattle.std.specs.List.{list_all, slice_split, starts_with}
use Rattle.std.specs.Str.Parse.{digits_value, without_leading_plus}

-- the texts that references point to
abbrev pub texts_of : List (Bor (List ℕ)) → List (List ℕ)
texts_of parts = map (λ part. part.now) parts

-- the fields of a line: its parts around the tabs
abbrev pub line_fields : List ℕ → List (List ℕ)
line_fields line = slice_split (λ byte. byte == 9) line

-- the field with this index, from 0; nothing where there is none
abbrev pub field_at : List (List ℕ) → ℕ → List ℕ
field_at fields index = slice_index_or fields index []

-- a number below 2^64 in digits; any other text counts as 2^64 - 1
abbrev pub number_of : List ℕ → ℕ
number_of text =
    let digits = without_leading_plus text in
    if not (length digits == 0) && list_all is_ascii_digit digits
    && nat_lt (digits_value 10 digits) (2 ^ 64) then digits_value 10 digits
    else 2 ^ 64 - 1

-- the number in a field
abbrev pub number_at : List (List ℕ) → ℕ → ℕ
number_at fields index = number_of (field_at fields index)

-- the number behind a name, as that of `traces=3`
abbrev pub figure_of : List ℕ → List ℕ → ℕ
figure_of name text =
    if starts_with nat_eq text name then number_of (drop (length name) text) else 2 ^ 64 - 1
