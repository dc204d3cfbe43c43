-- What the steps of a run do.
use Rattle.std.specs.Prelude.{ℕ, ◌≡◌, ◌++◌, List, [], ◌∷◌, Bool, true, map, Option, Result, Ok, Err}
use Rattle.std.specs.Prelude.{⊤}
use Rattle.std.specs.Io.KnownBytes.{append_known}
use Rattle.event_lines.specs.Cut.{input_lines}
use Rattle.mystery_io.specs.Counts.{counted_up}
use Rattle.mystery_io.specs.Prefixes.{AppendsPrefix}
use Rattle.mystery_io.specs.Readings.{AreEnded, Reading}
use Rattle.line_clean.specs.declared.carry.Carry.{Carry}
use Rattle.line_clean.specs.declared.clean_fault.CleanFault.{CleanFault}
use Rattle.line_clean.specs.declared.clean_fault.CleanFault.TheVariants.{Arguments, Memory, File}
use Rattle.line_clean.specs.declared.clean_fault.CleanFault.TheVariants.{Write}
use Rattle.line_clean.specs.Lines.{clean_text, lines_read}
use Rattle.line_clean.specs.inner.Carrying.{text_with}

-- the count of faults of the sink
abbrev pub write_faults : {T : Type 0} → Result T CleanFault → ℕ → ℕ
write_faults (Ok x) count = count
write_faults (Err Arguments) count = count
write_faults (Err Memory) count = count
write_faults (Err (File index)) count = count
write_faults (Err Write) count = counted_up count

-- the count of faults of the files
abbrev pub read_faults : {T : Type 0} → Result T CleanFault → ℕ → ℕ
read_faults (Ok x) count = count
read_faults (Err Arguments) count = count
read_faults (Err Memory) count = count
read_faults (Err (File index)) count = counted_up count
read_faults (Err Write) count = count

-- these bytes of a file came, and what is printed of them was written, but for the line that is
-- carried
pub record Carries (start now : Option (List ℕ)) (bytes : List ℕ) (carry : Carry) : Type 0 where
  pub sent : List ℕ
  pub written : now ≡ append_known start sent
  pub told : (later : List ℕ)
      → clean_text (input_lines (bytes ++ later)) ≡ sent ++ text_with carry later

-- the open file was read to its end, whose reading began empty, and its last line is carried
pub record ReadsOn (name : List ℕ) (first : List Reading) (start now : Option (List ℕ))
    (given_now : List Reading) (carry : Carry) : Type 0 where
  pub bytes : List ℕ
  pub given : given_now ≡ first ++ record { name = name; bytes = bytes; at_end = true } ∷ []
  pub carries : Carries start now bytes carry

-- a fault that the file with this index may cause, or no file
abbrev pub IsFaultOf : ℕ → CleanFault → Type 0
IsFaultOf index Arguments = ⊥
IsFaultOf index Memory = ⊤
IsFaultOf index (File i) = i ≡ index
IsFaultOf index Write = ⊤

-- a file of this name was read to its end, and what is printed of it was written
pub record FileCleaned (name : List ℕ) (start now : Option (List ℕ))
    (given_before given_now : List Reading) : Type 0 where
  pub bytes : List ℕ
  pub given :
      given_now ≡ given_before ++ record { name = name; bytes = bytes; at_end = true } ∷ []
  pub written : now ≡ append_known start (clean_text (input_lines bytes))

-- some of it was read, and a prefix of what is printed of that was written
pub record FileStops (name : List ℕ) (start now : Option (List ℕ))
    (given_before given_now : List Reading) : Type 0 where
  pub bytes : List ℕ
  pub at_end : Bool
  pub given :
      given_now ≡ given_before ++ record { name = name; bytes = bytes; at_end = at_end } ∷ []
  pub prefix : AppendsPrefix start now (clean_text (input_lines bytes))

-- files of these names were read to their ends, and what is printed of them was written
pub record FilesCleaned (names : List (List ℕ)) (start now : Option (List ℕ))
    (given_before given_now : List Reading) : Type 0 where
  pub readings : List Reading
  pub given : given_now ≡ given_before ++ readings
  pub named : map (λ (r : Reading). r.name) readings ≡ names
  pub ended : AreEnded readings
  pub written : now ≡ append_known start (clean_text (lines_read readings))
