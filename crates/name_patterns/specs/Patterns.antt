-- The pattern of a text: what is left of it where ids may stand. Indices count bytes from 0. This is
-- the project's own.
use Rattle.std.specs.Prelude.{ℕ, ◌+◌, ◌-◌, ◌==◌, ◌&&◌, ◌||◌, List, [], ◌∷◌, Bool, codes, drop, length}
use Rattle.std.specs.Prelude.{flat_map, if◌then◌else◌, nat_le, nat_lt, slice_index_or, take}
use Rattle.std.specs.Char.{is_ascii_digit, is_ascii_hexdigit}
use Rattle.std.specs.List.{list_any, prefix_len, range_with_len, suffix_len}

-- a hex digit or a hyphen, of which a UUID is made
abbrev pub is_uuid_byte : ℕ → Bool
is_uuid_byte c = is_ascii_hexdigit c || c == 45

-- how many bytes that pass stand in a row right before an index and from it on
abbrev pub row_around : (ℕ → Bool) → List ℕ → ℕ → ℕ
row_around p bytes at = suffix_len p (take at bytes) + prefix_len p (drop at bytes)

-- the byte at an index is one of so many or more in a row that pass
abbrev pub is_in_row : (ℕ → Bool) → (fewest : ℕ) → List ℕ → ℕ → Bool
is_in_row p fewest bytes at =
    p (slice_index_or bytes at 0) && nat_le fewest (row_around p bytes at)

-- an `@` stands before the index
abbrev pub is_behind_sign : List ℕ → ℕ → Bool
is_behind_sign bytes at = list_any (λ c. c == 64) (take at bytes)

-- the byte may be of an id: it stands behind an `@`, is a decimal digit, is a hex digit of eight or
-- more in a row, or is a hex digit or a hyphen of 36 or more in a row, which a UUID has
abbrev pub varies : List ℕ → ℕ → Bool
varies bytes at =
    is_behind_sign bytes at || (is_ascii_digit (slice_index_or bytes at 0)
    || (is_in_row is_ascii_hexdigit 8 bytes at || is_in_row is_uuid_byte 36 bytes at))

-- the byte before the index does
abbrev pub varied_before : List ℕ → ℕ → Bool
varied_before bytes at = nat_lt 0 at && varies bytes (at - 1)

-- the byte itself, or for the first of bytes that vary in a row a placeholder
abbrev pub piece_at : List ℕ → ℕ → List ℕ
piece_at bytes at =
    if varies bytes at then (if varied_before bytes at then [] else codes "{}")
    else slice_index_or bytes at 0 ∷ []

-- the pattern of a text
abbrev pub pattern_of : List ℕ → List ℕ
pattern_of bytes = flat_map (piece_at bytes) (range_with_len 0 (length bytes))
