-- Numbers as words of digits.
use Rattle.std.specs.Prelude.{ℕ, ◌^◌, ◌||◌, ◌&&◌, List, length, Bool, nat_lt, decimal}
use Rattle.std.specs.Prelude.{if◌then◌else◌, Option, Some, None}
use Rattle.std.specs.List.{list_all}
use Rattle.std.specs.Char.{is_ascii_digit}
use Rattle.std.specs.Int.{is_in_range}
use Rattle.std.specs.Str.{bytes_eq}
use Rattle.std.specs.Str.Parse.{digits_value}

-- the number, up to 4,294,967,295, that is printed as this word; none where no number is
abbrev pub plain_number : List ℕ → Option ℕ
plain_number word =
    if nat_lt (digits_value 10 word) (2 ^ 32) && bytes_eq (decimal (digits_value 10 word)) word
    then Some (digits_value 10 word)
    else None

-- a hexadecimal digit, 0 to 9 or a to f
abbrev pub is_mask_digit : ℕ → Bool
is_mask_digit byte = is_ascii_digit byte || is_in_range 97 102 byte

-- the mask that a word is: 1 to 16 lower-case hexadecimal digits
abbrev pub mask_number : List ℕ → Option ℕ
mask_number word =
    if is_in_range 1 16 (length word) && list_all is_mask_digit word
    then Some (digits_value 16 word)
    else None
