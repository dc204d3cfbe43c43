-- What stands before a byte of a text.
use Rattle.std.specs.Prelude.{ℕ, ◌≡◌, ◌+◌, ◌==◌, ◌||◌, List, [], ◌∷◌, Bool, codes, if◌then◌else◌, take}
use Rattle.std.specs.Char.{is_ascii_hexdigit}
use Rattle.std.specs.List.{suffix_len}
use Rattle.name_patterns.specs.Patterns.{is_behind_sign, is_uuid_byte, varied_before}
use Rattle.name_patterns.specs.declared.pattern.Before.{Before}

-- a byte that stands in a row of hex digits, or of hex digits and hyphens
abbrev pub is_of_row : (hyphens : Bool) → ℕ → Bool
is_of_row hyphens c = if hyphens then is_uuid_byte c else is_ascii_hexdigit c

-- this stands before the byte at an index
pub record AreBefore (bytes : List ℕ) (at : ℕ) (b : Before) : Type 0 where
  pub hex_is : b.hex ≡ suffix_len is_ascii_hexdigit (take at bytes)
  pub uuid_is : b.uuid ≡ suffix_len is_uuid_byte (take at bytes)
  pub sign_is : b.sign ≡ is_behind_sign bytes at
  pub varies_is : b.varies ≡ varied_before bytes at

-- what stands before the next byte
abbrev pub after_byte : Before → ℕ → Bool → Before
after_byte b byte varies = record {
  hex = if is_ascii_hexdigit byte then b.hex + 1 else 0;
  uuid = if is_uuid_byte byte then b.uuid + 1 else 0;
  sign = b.sign || (byte == 64);
  varies = varies;
}

-- the byte, or a placeholder where it varies and the one before it does not
abbrev pub byte_or_hole : ℕ → (varies before : Bool) → List ℕ
byte_or_hole byte varies before =
    if varies then (if before then [] else codes "{}") else byte ∷ []
