-- How the files of an input are read, one after another.
use Rattle.std.specs.Prelude.{ℕ, ◌≡◌, ◌+◌, ◌-◌, ◌^◌, ◌<◌, ◌≤◌, List, [], ◌∷◌, ◌++◌, length, map, true, Result}
use Rattle.std.specs.Prelude.{Ok, Err, ⊤}
use Rattle.event_lines.specs.LineParts.{lines_of_runs}
use Rattle.mystery_io.specs.Counts.{counted_up}
use Rattle.mystery_io.specs.ReadFaults.{FilesSeen}
use Rattle.mystery_io.specs.Readings.{AreEnded, Reading}
use Rattle.import_run.specs.Endings.{HasLines, HasSpans}
use Rattle.import_run.specs.Inputs.{bytes_given, input_limit, size_given}
use Rattle.import_run.specs.declared.form.Form.{Form}
use Rattle.import_run.specs.declared.form.Form.TheVariants as forms
use Rattle.import_run.specs.declared.input.Input.{Input}
use Rattle.import_run.specs.declared.input.Input.TheVariants.{Lines, Spans}
use Rattle.import_run.specs.declared.outcome.Outcome.{Outcome}
use Rattle.import_run.specs.declared.outcome.Outcome.TheVariants.{Done, Memory, Arguments, BadLine}
use Rattle.import_run.specs.declared.outcome.Outcome.TheVariants.{BadSpan, File, TooMany, Write, Size}
use Rattle.import_run.specs.inner.Taken.{HasTaken, IsFileFault, form_of_input, spans_view}

-- files of these names were read to their ends and taken, and this is how many bytes they have
-- together
pub record HasRead (names : List (List ℕ)) (input : Input) (size : ℕ)
    (before now : List Reading) : Type 0 where
  pub readings : List Reading
  pub given : now ≡ before ++ readings
  pub named : map (λ (r : Reading). r.name) readings ≡ names
  pub ended : AreEnded readings
  pub good : HasTaken input (bytes_given readings)
  pub sized : size_given readings ≡ size
  pub fits : size ≤ input_limit

-- the file with this index was read, after so many bytes, and taken
pub record ReadsOne (index : ℕ) (name : List ℕ) (size next : ℕ) (old new : Input)
    (before now : List Reading) : Type 0 where
  pub bytes : List ℕ
  pub given : now ≡ before ++ record { name = name; bytes = bytes; at_end = true } ∷ []
  pub taken : (inputs : List (List ℕ)) → length inputs ≡ index → HasTaken old inputs
      → HasTaken new (inputs ++ bytes ∷ [])
  pub counted : next ≡ size + length bytes
  pub fits : next ≤ input_limit

-- the file that a reading gave was not taken behind others, which were
pub record IsNotTaken (index size : ℕ) (old : Input) (r : Reading) (outcome : Outcome) : Type 0 where
  pub ended : r.at_end ≡ true
  pub fits : size + length r.bytes ≤ input_limit
  pub fault : (inputs : List (List ℕ)) → length inputs ≡ index → HasTaken old inputs
      → IsFileFault (form_of_input old) index (inputs ++ r.bytes ∷ []) outcome

-- why one file more was not read, after so many bytes
abbrev pub HasOneCause : (index : ℕ) → ℕ → Input → Reading → Outcome → Type 0
HasOneCause index size old r Memory = ⊤
HasOneCause index size old r (File i) = i ≡ index
HasOneCause index size old r Size = input_limit < size + length r.bytes
HasOneCause index size old r (BadLine file line why) =
    IsNotTaken index size old r (BadLine file line why)
HasOneCause index size old r (BadSpan form at reason) =
    IsNotTaken index size old r (BadSpan form at reason)
HasOneCause index size old r TooMany = ⊥
HasOneCause index size old r Arguments = ⊥
HasOneCause index size old r (Done notes) = ⊥
HasOneCause index size old r Write = ⊥

-- one file more was opened, and reading ended so
pub record StopsAt (index size : ℕ) (name : List ℕ) (old : Input) (before now : List Reading)
    (outcome : Outcome) : Type 0 where
  pub reading : Reading
  pub named : reading.name ≡ name
  pub given : now ≡ before ++ reading ∷ []
  pub cause : HasOneCause index size old reading outcome

-- the count of faults of files after an outcome: one more where a file failed
abbrev pub file_faults_after : Outcome → ℕ → ℕ
file_faults_after (Done notes) count = count
file_faults_after Memory count = count
file_faults_after Arguments count = count
file_faults_after (BadLine file line why) count = count
file_faults_after (BadSpan form at reason) count = count
file_faults_after (File index) count = counted_up count
file_faults_after Write count = count
file_faults_after Size count = count
file_faults_after TooMany count = count

-- the same after a result
abbrev pub read_faults : {T : Type 0} → Result T Outcome → ℕ → ℕ
read_faults (Ok x) count = count
read_faults (Err outcome) count = file_faults_after outcome count

-- all files were read, and this is what they have
abbrev pub HasInput : Form → FilesSeen → List (List ℕ) → Input → Type 0
HasInput form files names (Lines runs) =
    (form ≡ forms.Events) × HasLines files names (lines_of_runs runs.items)
    × (length (lines_of_runs runs.items) < 2 ^ 31 - 100)
HasInput form files names (Spans of_form spans) =
    (form ≡ forms.Spans of_form) × HasSpans of_form files names (spans_view spans)
    × (length spans.spans.items ≡ length spans.places.items)
