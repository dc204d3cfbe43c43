-- Why one file of an input was not read.
use Rattle.std.specs.Prelude.{◌≡◌, ℕ, Bool, false, List, [], ◌∷◌, ◌++◌, ◌+◌, ◌<◌, ◌≤◌, length, ⊤}
use Rattle.mystery_io.specs.Input.{bytes_read, input_limit}
use Rattle.mystery_io.specs.Readings.{Reading, after_bytes}
use Rattle.mystery_io.specs.declared.reading.ReadFault.{ReadFault}
use Rattle.mystery_io.specs.declared.reading.ReadFault.TheVariants.{Memory, File, TooBig}

-- what a fault tells of the file at an index, so many bytes standing before those of the file that
-- came
abbrev pub IsFaultAfter : ℕ → ℕ → ℕ → ReadFault → Type 0
IsFaultAfter index count more Memory = ⊤
IsFaultAfter index count more (File i) = (i ≡ index) × (count + more ≤ input_limit)
IsFaultAfter index count more TooBig = input_limit < count + more

-- what a fault tells of the rest of the open file
pub record HasRestCause (index count : ℕ) (given_before given_now : List Reading)
    (fault : ReadFault) : Type 0 where
  pub more : List ℕ
  pub given : given_now ≡ after_bytes given_before more false
  pub why : IsFaultAfter index count (length more) fault

-- what a fault tells of a file of this name
pub record HasFileCause (index count : ℕ) (name : List ℕ) (given_before given_now : List Reading)
    (fault : ReadFault) : Type 0 where
  pub reading : Reading
  pub named : reading.name ≡ name
  pub given : given_now ≡ given_before ++ reading ∷ []
  pub why : IsFaultAfter index count (length (bytes_read reading)) fault

-- after so many bytes, the line feed that ends the last line passes the limit
abbrev pub IsPassedByFeed : ℕ → Bool → ReadFault → Type 0
IsPassedByFeed count ends_line Memory = ⊤
IsPassedByFeed count ends_line (File i) = ⊥
IsPassedByFeed count ends_line TooBig = (count ≡ input_limit) × (ends_line ≡ false)
