-- Lists of words of 64 bits, and what is left of them.
use Rattle.std.specs.Prelude.{◌≡◌, ℕ, ◌^◌, ◌<◌, min, if◌then◌else◌, List, ◌++◌, length, replicate, bit_and, bit_xor, slice_index, slice_set}
use Rattle.std.specs.Int.{bit_at}
use Rattle.word_rows.specs.declared.entries.Entry.{Entry}
use Rattle.word_rows.specs.Rows.{rows_clear}

-- this bit of the word with this index: 0 or 1
abbrev pub bit_of : List ℕ → ℕ → ℕ → ℕ
bit_of words word bit = bit_at (slice_index words word) bit

-- each is a word of 64 bits
abbrev pub AreWords : List ℕ → Type 0
AreWords words = (i : ℕ) → i < length words → slice_index words i < 2 ^ 64

-- as many words as the width, with all 64 bits 1
abbrev pub full_words : ℕ → List ℕ
full_words width = replicate width 18446744073709551615

-- the words with so many full words at their end
abbrev pub widened_words : List ℕ → ℕ → List ℕ
widened_words words more = words ++ full_words more

-- the number without the bits of a mask
abbrev pub without : ℕ → ℕ → ℕ
without n mask = bit_xor n (bit_and n mask)

-- one word loses the bits of an entry
abbrev pub without_entry : List ℕ → Entry → List ℕ
without_entry words e = slice_set words e.word (without (slice_index words e.word) e.mask)

-- the meet of words with a list of rows: a bit that some row clears is 0, and every other bit is
-- what it was
pub record IsMeet (old : List ℕ) (rows : List (List Entry)) (new : List ℕ) : Type 0 where
  pub width : length new ≡ length old
  pub bits : (i b : ℕ) → i < length old → b < 64
      → bit_of new i b ≡ (if rows_clear rows i b then 0 else bit_of old i b)

-- the meet of two lists of words of one width: a bit is 1 where it is 1 in both
pub record IsCommon (old other new : List ℕ) : Type 0 where
  pub width : length new ≡ length old
  pub bits : (i b : ℕ) → i < length old → b < 64
      → bit_of new i b ≡ min (bit_of old i b) (bit_of other i b)
