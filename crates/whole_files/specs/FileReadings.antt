-- How one file is read, and what stands when it could not be.
use Rattle.std.specs.Prelude.{ℕ, ◌≡◌, ◌<◌, List, [], ◌∷◌, ◌++◌, Bool, length}
use Rattle.std.specs.Prelude.{Result, Ok, Err}
use Rattle.mystery_io.specs.Counts.{counted_up}
use Rattle.mystery_io.specs.Readings.{Reading, after_read}
use Rattle.whole_files.specs.declared.file_read_fault.FileReadFault.{FileReadFault}
use Rattle.whole_files.specs.declared.file_read_fault.FileReadFault.TheVariants.{Memory, Failed, TooBig}

-- a piece was read and appended: an empty one is the end
pub record ReadsPiece (count : ℕ) (old new : List ℕ) (before now : List Reading) : Type 0 where
  pub piece : List ℕ
  pub size : length piece ≡ count
  pub appended : new ≡ old ++ piece
  pub given : now ≡ after_read before piece

-- a reading of this name came with these bytes, up to the end or not
abbrev pub Came : List ℕ → List ℕ → Bool → List Reading → List Reading → Type 0
Came name bytes at_end before now =
    now ≡ before ++ record { name = name; bytes = bytes; at_end = at_end } ∷ []

-- the count of faults after a file: one more where a call failed
abbrev pub faults_of : {T : Type 0} → Result T FileReadFault → ℕ → ℕ
faults_of (Ok x) count = count
faults_of (Err Memory) count = count
faults_of (Err Failed) count = counted_up count
faults_of (Err TooBig) count = count

-- a reading of this name came, and with `TooBig` it has more bytes than so many
pub record FailsAfter (most : ℕ) (name : List ℕ) (before now : List Reading) (fault : FileReadFault)
    : Type 0 where
  pub reading : Reading
  pub named : reading.name ≡ name
  pub given : now ≡ before ++ reading ∷ []
  pub passes : fault ≡ TooBig → most < length reading.bytes
