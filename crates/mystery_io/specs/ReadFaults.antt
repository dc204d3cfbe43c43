-- Which files were opened, and why the input was not read.
use Rattle.std.specs.Prelude.{◌≡◌, ℕ, List, Result, Ok, Err, ◌+◌, ◌<◌, ◌≤◌, length, map, take}
use Rattle.mystery_io.specs.Input.{input_limit, input_read}
use Rattle.mystery_io.specs.Readings.{AreEndedBeforeLast, Reading, new_readings}
use Rattle.mystery_io.specs.declared.reading.ReadFault.{ReadFault}
use Rattle.mystery_io.specs.declared.reading.ReadFault.TheVariants.{Memory, File, TooBig}
use Rattle.mystery_io.specs.Counts.{CountsCalls, counted_up}

-- what a call saw of the files: its readings, and how often `open` was called, before and now
pub record FilesSeen : Type 0 where
  pub readings : List Reading
  pub opens_before : ℕ
  pub opens_now : ℕ

-- the same, by the meanings of `Files` and its states before and now
abbrev pub files_seen : {F : Type 0} → (F → List Reading) → (F → ℕ) → F → F → FilesSeen
files_seen given opens old new = record {
  readings = new_readings (given old) (given new);
  opens_before = opens old;
  opens_now = opens new;
}

-- `open` was called with exactly the first `count` names, one after another, and each file but the
-- last was read to its end
pub record OpensFirst (seen : FilesSeen) (names : List (List ℕ)) (count : ℕ) : Type 0 where
  pub within : count ≤ length names
  pub counted : CountsCalls count seen.opens_before seen.opens_now
  pub named : map (λ (r : Reading). r.name) seen.readings ≡ take count names
  pub ended : AreEndedBeforeLast seen.readings

-- the file at an index could not be opened or read: it was the last that `open` was called with, and
-- the input with what was read of it is within the limit
pub record FailedAt (seen : FilesSeen) (names : List (List ℕ)) (index : ℕ) : Type 0 where
  pub opened : OpensFirst seen names (index + 1)
  pub fits : length (input_read seen.readings) ≤ input_limit

-- the input passes the limit in the file at an index: it was the last to be opened, the input of
-- the files before it is within the limit, and the input with it is not
pub record PassedAt (seen : FilesSeen) (names : List (List ℕ)) (index : ℕ) : Type 0 where
  pub opened : OpensFirst seen names (index + 1)
  pub fits : length (input_read (take index seen.readings)) ≤ input_limit
  pub passes : input_limit < length (input_read seen.readings)

-- why the input was not read
abbrev pub HasReadCause : FilesSeen → List (List ℕ) → ReadFault → Type 0
HasReadCause seen names Memory = (count : ℕ) × OpensFirst seen names count
HasReadCause seen names (File index) = FailedAt seen names index
HasReadCause seen names TooBig = (index : ℕ) × PassedAt seen names index

-- the count of faults after reading: one more where a file failed, and unchanged otherwise
abbrev pub read_faults : {T : Type 0} → Result T ReadFault → ℕ → ℕ
read_faults (Ok x) count = count
read_faults (Err Memory) count = count
read_faults (Err (File index)) count = counted_up count
read_faults (Err TooBig) count = count
