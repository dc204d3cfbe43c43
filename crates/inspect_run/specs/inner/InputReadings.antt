-- How the files of an input are read, one after another.
use Rattle.std.specs.Prelude.{ℕ, ◌≡◌, ◌+◌, ◌<◌, ◌≤◌, List, [], ◌∷◌, ◌++◌, length, map, true}
use Rattle.std.specs.Prelude.{Result, Ok, Err, ⊤}
use Rattle.event_lines.specs.declared.line.Line.{Line}
use Rattle.line_quality.specs.Judging.{Judges}
use Rattle.line_quality.specs.declared.findings.Findings.{Findings}
use Rattle.mystery_io.specs.Counts.{counted_up}
use Rattle.mystery_io.specs.Input.{input_limit}
use Rattle.mystery_io.specs.Readings.{AreEnded, Reading}
use Rattle.inspect_run.specs.Judging.{AreJudged, size_given}
use Rattle.inspect_run.specs.declared.outcome.Outcome.{Outcome}
use Rattle.inspect_run.specs.declared.outcome.Outcome.TheVariants.{Done, Memory, Arguments, File}
use Rattle.inspect_run.specs.declared.outcome.Outcome.TheVariants.{Write, Size}

-- files of these names were read to their ends and judged, and have so many bytes together
pub record HasRead (names : List (List ℕ)) (lines : List Line) (findings : Findings) (size : ℕ)
    (before now : List Reading) : Type 0 where
  pub readings : List Reading
  pub given : now ≡ before ++ readings
  pub named : map (λ (r : Reading). r.name) readings ≡ names
  pub ended : AreEnded readings
  pub judged : AreJudged readings lines findings
  pub sized : size_given readings ≡ size
  pub fits : size ≤ input_limit

-- one file more was read, after so many bytes: its lines were judged
pub record ReadsOne (index : ℕ) (name : List ℕ) (size next : ℕ) (old new : List Line)
    (found finds : Findings) (before now : List Reading) : Type 0 where
  pub bytes : List ℕ
  pub given : now ≡ before ++ record { name = name; bytes = bytes; at_end = true } ∷ []
  pub judged : Judges index bytes old new found finds
  pub counted : next ≡ size + length bytes
  pub fits : next ≤ input_limit

-- why one file more was not read, after so many bytes
abbrev pub HasOneCause : (index : ℕ) → ℕ → Reading → Outcome → Type 0
HasOneCause index size r Memory = ⊤
HasOneCause index size r (File i) = i ≡ index
HasOneCause index size r Size = input_limit < size + length r.bytes
HasOneCause index size r Arguments = ⊥
HasOneCause index size r Done = ⊥
HasOneCause index size r Write = ⊥

-- one file more was opened, and reading ended so
pub record StopsAt (index size : ℕ) (name : List ℕ) (before now : List Reading)
    (outcome : Outcome) : Type 0 where
  pub reading : Reading
  pub named : reading.name ≡ name
  pub given : now ≡ before ++ reading ∷ []
  pub cause : HasOneCause index size reading outcome

-- the count of faults of files after an outcome: one more where a file failed
abbrev pub file_faults_after : Outcome → ℕ → ℕ
file_faults_after Done count = count
file_faults_after Memory count = count
file_faults_after Arguments count = count
file_faults_after (File index) count = counted_up count
file_faults_after Write count = count
file_faults_after Size count = count

-- the same after a result
abbrev pub read_faults : {T : Type 0} → Result T Outcome → ℕ → ℕ
read_faults (Ok x) count = count
read_faults (Err outcome) count = file_faults_after outcome count
