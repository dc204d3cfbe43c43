-- How a name stands in markup: five signs are written as references, and those that a reader can't
-- see, or that turn the direction of the text, by their numbers.
use Rattle.std.specs.Prelude.{ℕ, ◌≡◌, ◌==◌, ◌+◌, ◌/◌, ◌%◌, ◌&&◌, ◌||◌, ◌++◌, List, [], ◌∷◌, Bool, true}
use Rattle.std.specs.Prelude.{if◌then◌else◌, nat_eq, nat_lt, All, codes, false, not, chars}
use Rattle.std.specs.Prelude.{encode_utf8_all}
use Rattle.std.specs.Int.{is_in_range}
use Rattle.std.specs.List.{flat_map, starts_with}
use Rattle.std.specs.Str.{IsUtf8}

-- a sign below 2,048 that is not seen, turns the direction or looks like a space: the controls, the
-- space that does not break, the soft hyphen, the grapheme joiner, the Arabic letter mark
abbrev pub is_hidden_short : ℕ → Bool
is_hidden_short sign = is_in_range 0 0x1F sign || is_in_range 0x7F 0xA0 sign || sign == 0xAD
    || sign == 0x34F || sign == 0x61C

-- such a sign of a script: fillers of Hangul, the space of Ogham, vowels of Khmer and separators of
-- Mongolian that are not seen, the empty sign of Braille, the wide space
abbrev pub is_hidden_script : ℕ → Bool
is_hidden_script sign = is_in_range 0x115F 0x1160 sign || sign == 0x1680
    || is_in_range 0x17B4 0x17B5 sign || is_in_range 0x180B 0x180F sign || sign == 0x2800
    || sign == 0x3000 || sign == 0x3164 || sign == 0xFFA0

-- such a sign of all scripts: spaces, marks and embeddings of direction, ends of lines, joiners,
-- selectors of variations, signs of notation and tags that are not seen; and `⟨`, which begins what
-- stands for all of them
abbrev pub is_hidden_mark : ℕ → Bool
is_hidden_mark sign = is_in_range 0x2000 0x200F sign || is_in_range 0x2028 0x202F sign
    || is_in_range 0x205F 0x206F sign || sign == 0x27E8 || is_in_range 0xFE00 0xFE0F sign
    || sign == 0xFEFF || is_in_range 0xFFF0 0xFFFB sign || is_in_range 0x1BCA0 0x1BCA3 sign
    || is_in_range 0x1D173 0x1D17A sign || is_in_range 0xE0000 0xE0FFF sign

-- a sign that does not stand as it is, although it is no markup
abbrev pub is_hidden : ℕ → Bool
is_hidden sign = is_hidden_short sign || is_hidden_script sign || is_hidden_mark sign

-- a digit in base 16, in upper case
abbrev pub hex_digit : ℕ → ℕ
hex_digit number = if nat_lt number 10 then 48 + number else 55 + number

-- four digits of a number in base 16
abbrev pub four_digits : ℕ → List ℕ
four_digits number = hex_digit (number / 4096 % 16) ∷ hex_digit (number / 256 % 16)
    ∷ hex_digit (number / 16 % 16) ∷ hex_digit (number % 16) ∷ []

-- a number in base 16 between `⟨` and `⟩`: four digits, or five
abbrev pub bracketed : ℕ → List ℕ
bracketed number =
    if nat_lt number 65536 then 0x27E8 ∷ four_digits number ++ 0x27E9 ∷ []
    else 0x27E8 ∷ hex_digit (number / 65536) ∷ four_digits number ++ 0x27E9 ∷ []

-- a sign of a name: `"`, `&`, `'`, `<` and `>` as a reference, a hidden one by its number, any other
-- as it is
abbrev pub escaped_sign : ℕ → List ℕ
escaped_sign sign =
    if sign == 34 then codes "&#34;" else if sign == 38 then codes "&#38;"
    else if sign == 39 then codes "&#39;" else if sign == 60 then codes "&#60;"
    else if sign == 62 then codes "&#62;" else if is_hidden sign then bracketed sign
    else sign ∷ []

-- a name in markup, as text and as an attribute in quotes, in UTF-8 as the name is
unfoldable pub escaped : List ℕ → List ℕ
escaped name = encode_utf8_all (flat_map escaped_sign (chars name))

-- the bytes that begin or end markup: `"`, `'`, `<` and `>`
abbrev pub is_markup : ℕ → Bool
is_markup byte = byte == 34 || byte == 39 || byte == 60 || byte == 62

-- the rest of one of the five references, behind its `&`
abbrev pub begins_reference : List ℕ → Bool
begins_reference bytes = starts_with nat_eq bytes (codes "#34;")
    || starts_with nat_eq bytes (codes "#38;") || starts_with nat_eq bytes (codes "#39;")
    || starts_with nat_eq bytes (codes "#60;") || starts_with nat_eq bytes (codes "#62;")

-- each `&` begins one of the five references
abbrev pub are_references : List ℕ → Bool
are_references [] = true
are_references (byte ∷ bytes) =
    (not (byte == 38) || begins_reference bytes) && are_references bytes

-- no byte of an escaped name begins or ends markup
abbrev pub EscapeHasNoMarkup : Type 0
EscapeHasNoMarkup = (name : List ℕ) → All (λ byte. is_markup byte ≡ false) (escaped name)

-- each `&` of an escaped name begins one of the five references
abbrev pub EscapeHasReferences : Type 0
EscapeHasReferences = (name : List ℕ) → are_references (escaped name) ≡ true

-- names that are written alike are the same
abbrev pub EscapeIsInjective : Type 0
EscapeIsInjective =
    (name other : List ℕ) → IsUtf8 name → IsUtf8 other → escaped name ≡ escaped other → name ≡ other
