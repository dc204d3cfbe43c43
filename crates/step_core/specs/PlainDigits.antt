-- The form of a number in plain digits.
use Rattle.std.specs.Prelude.{ℕ, ◌==◌, ◌&&◌, List, length, Bool, not, nat_lt, slice_index}
use Rattle.std.specs.List.{list_all}
use Rattle.std.specs.Char.{is_ascii_digit}

-- more than one byte, and the first is the digit 0
abbrev pub has_leading_zero : List ℕ → Bool
has_leading_zero word = nat_lt 1 (length word) && (slice_index word 0 == 48)

-- at least one decimal digit and nothing else, and no leading 0
abbrev pub is_plain : List ℕ → Bool
is_plain word =
    not (length word == 0) && not (has_leading_zero word) && list_all is_ascii_digit word
