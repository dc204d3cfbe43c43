-- The lines of a text, the fields of a line, and the numbers in them.
use Rattle.std.specs.Prelude.{ℕ, ◌==◌, ◌&&◌, ◌+◌, [], List, Bool, drop, if◌then◌else◌, length, map}
use Rattle.std.specs.Prelude.{nat_eq, nat_le, nat_lt, slice_index_or}
use Rattle.std.specs.Borrow.{Bor}
use Rattle.std.specs.Char.{is_ascii_digit}
use Rattle.std.specs.List.{list_all, slice_split, starts_with}
use Rattle.std.specs.Str.Parse.{digits_value}
use Rattle.trace_types.specs.Segments.{SegmentName}

-- the texts that references point to
abbrev pub texts_of : List (Bor (List ℕ)) → List (List ℕ)
texts_of parts = map (λ part. part.now) parts

-- the lines of a text: its parts around the line feeds
abbrev pub text_lines : List ℕ → List (List ℕ)
text_lines text = slice_split (λ byte. byte == 10) text

-- the fields of a line: its parts around the tabs
abbrev pub line_fields : List ℕ → List (List ℕ)
line_fields line = slice_split (λ byte. byte == 9) line

-- the field at this place, from 0; nothing where there is none
abbrev pub field_at : List (List ℕ) → ℕ → List ℕ
field_at fields place = slice_index_or fields place []

-- a number: 1 to 24 decimal digits, so that it is below 2^80
abbrev pub is_number : List ℕ → Bool
is_number text =
    nat_lt 0 (length text) && nat_le (length text) 24 && list_all is_ascii_digit text

-- the number that a text is; 0 for a text that is none
abbrev pub number_of : List ℕ → ℕ
number_of text = if is_number text then digits_value 10 text else 0

-- the number in a field
abbrev pub number_at : List (List ℕ) → ℕ → ℕ
number_at fields place = number_of (field_at fields place)

-- the numbers in all fields from this place on
abbrev pub numbers_from : List (List ℕ) → ℕ → List ℕ
numbers_from fields place = map number_of (drop place fields)

-- a name before a number, as `traces=3`
abbrev pub is_figure : List ℕ → List ℕ → Bool
is_figure name text = starts_with nat_eq text name && is_number (drop (length name) text)

-- the number behind a name in a field; 0 where the field is no such figure
abbrev pub figure_at : List ℕ → List (List ℕ) → ℕ → ℕ
figure_at name fields place =
    let text = field_at fields place in
    if is_figure name text then number_of (drop (length name) text) else 0

-- the name of a segment in three fields
abbrev pub name_at : List (List ℕ) → ℕ → SegmentName
name_at fields place =
    (field_at fields place, field_at fields (place + 1), field_at fields (place + 2))
