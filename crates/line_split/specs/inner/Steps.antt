-- What the steps of a run do: each splits some lines more.
use Rattle.std.specs.Prelude.{ℕ, ◌≡◌, ◌+◌, ◌<◌, ◌≤◌, ◌⊎◌, List, [], ◌∷◌, ◌++◌, All, Bool, IfErr, OnOk}
use Rattle.std.specs.Prelude.{Option, Some, None, Result, Ok, Err, length, true, ⊤}
use Rattle.event_lines.specs.Cut.{input_lines}
use Rattle.mystery_io.specs.Counts.{counted_up}
use Rattle.mystery_io.specs.Readings.{Reading}
use Rattle.output_files.specs.Written.{WrittenFile}
use Rattle.line_split.specs.declared.pending.Pending.{Pending}
use Rattle.line_split.specs.declared.reason.Reason.{Reason}
use Rattle.line_split.specs.declared.split_fault.SplitFault.{SplitFault}
use Rattle.line_split.specs.declared.split_fault.SplitFault.TheVariants.{Arguments, Memory, BadLine}
use Rattle.line_split.specs.declared.split_fault.SplitFault.TheVariants.{File, Write}
use Rattle.line_split.specs.CommandLines.{Call}
use Rattle.line_split.specs.Lines.{FileLine, IsGood, all_lines, lines_from, longest_line, request_of}
use Rattle.line_split.specs.Parts.{counted, file_count, part_of}
use Rattle.line_split.specs.Messages.{Outcome}
use Rattle.line_split.specs.Runs.{AreGoodButLast, Explains, IsFirstBad, ReadsAll, ReadsFirst}
use Rattle.line_split.specs.inner.Pending.{IsBegun, IsOver, Tells, buffer_count}

-- the part of a request, where there is one
abbrev pub part_said : Call → Result (Option (List ℕ)) Reason → Result (Option ℕ) Reason
part_said call (Ok (Some request)) = Ok (Some (part_of call.parts call.seed request))
part_said call (Ok None) = Ok None
part_said call (Err why) = Err why

-- the count of faults of the files that are written
abbrev pub write_faults : {T : Type 0} → Result T SplitFault → ℕ → ℕ
write_faults (Ok x) count = count
write_faults (Err Arguments) count = count
write_faults (Err Memory) count = count
write_faults (Err (BadLine file line why)) count = count
write_faults (Err (File index)) count = count
write_faults (Err Write) count = counted_up count

-- the count of faults of the files that are read
abbrev pub read_faults : {T : Type 0} → Result T SplitFault → ℕ → ℕ
read_faults (Ok x) count = count
read_faults (Err Arguments) count = count
read_faults (Err Memory) count = count
read_faults (Err (BadLine file line why)) count = count
read_faults (Err (File index)) count = counted_up count
read_faults (Err Write) count = count

-- a fault that no line causes
abbrev pub IsStoreFault : SplitFault → Type 0
IsStoreFault Arguments = ⊥
IsStoreFault Memory = ⊤
IsStoreFault (BadLine file line why) = ⊥
IsStoreFault (File index) = ⊥
IsStoreFault Write = ⊤

-- the first of these lines is bad, as the fault tells, or the fault is none of a line
abbrev pub IsCause : List FileLine → SplitFault → Type 0
IsCause rest Arguments = ⊥
IsCause rest Memory = ⊤
IsCause rest (BadLine file line why) = (bad : FileLine) × (after : List FileLine)
    × (rest ≡ bad ∷ after) × (request_of bad.bytes ≡ Err why) × (file ≡ bad.file)
    × (line ≡ counted bad.number)
IsCause rest (File index) = ⊥
IsCause rest Write = ⊤

-- the first of some lines more were split, and then a fault came
pub record Stops (call : Call) (before : List WrittenFile) (lines more : List FileLine)
    (written : List WrittenFile) (fault : SplitFault) : Type 0 where
  pub done : List FileLine
  pub rest : List FileLine
  pub split : more ≡ done ++ rest
  pub good : All IsGood done
  pub begun : IsBegun call before (lines ++ done) written
  pub cause : IsCause rest fault

-- the pending bytes are those of a call's files
pub record Fits (call : Call) (written : List WrittenFile) (pending : Pending) : Type 0 where
  pub over : IsOver written pending
  pub many : buffer_count pending ≡ file_count call

-- these lines more were split, or the first of them, by the meanings of `OutputFiles` and its states
-- before and now
pub record Splits {P T : Type 0} (call : Call) (more : List FileLine)
    (result : Result T SplitFault) (written : P → List WrittenFile) (faults : P → ℕ)
    (old new : P) (pending later : Pending) : Type 0 where
  pub fits : OnOk result (Fits call (written new) later)
  pub told : OnOk result ((before : List WrittenFile) (lines : List FileLine)
      → Tells call before lines (written old) pending
      → Tells call before (lines ++ more) (written new) later)
  pub good : OnOk result (All IsGood more)
  pub stops : IfErr result (λ fault. (before : List WrittenFile) (lines : List FileLine)
      → Tells call before lines (written old) pending
      → Stops call before lines more (written new) fault)
  pub counted : faults new ≡ write_faults result (faults old)
  pub unread : (count : ℕ) → read_faults result count ≡ count

-- the result of a step that has no fault
abbrev pub all_split : Result (Unit {0}) SplitFault
all_split = Ok tt

-- bytes of a file came, and the lines of it that have ended were split; what is carried is the line
-- that has not, and its number
pub record Carried {P : Type 0} (call : Call) (file : ℕ) (bytes : List ℕ)
    (written : P → List WrittenFile) (faults : P → ℕ) (start now : P) (pending later : Pending)
    (rest : List ℕ) (number : ℕ) : Type 0 where
  pub lines : List (List ℕ)
  pub cut : (more : List ℕ)
      → input_lines (bytes ++ more) ≡ lines ++ input_lines (rest ++ more)
  pub numbered : number ≡ counted (1 + length lines)
  pub split : Splits call (lines_from file 1 lines) all_split written faults start now pending later

-- what a fault tells of the lines of a file that were not split: the first of them is bad, and whole;
-- or the file could not be read on, and at most the line that has not ended is left
abbrev pub FileCause : ℕ → Bool → List FileLine → SplitFault → Type 0
FileCause file at_end rest Arguments = ⊥
FileCause file at_end rest Memory = ⊤
FileCause file at_end rest (BadLine f line why) = (bad : FileLine) × (after : List FileLine)
    × (rest ≡ bad ∷ after) × (request_of bad.bytes ≡ Err why) × (f ≡ bad.file)
    × (line ≡ counted bad.number)
    × ((0 < length after) ⊎ (at_end ≡ true) ⊎ (longest_line < length bad.bytes))
FileCause file at_end rest (File index) = (index ≡ file) × (length rest ≤ 1)
FileCause file at_end rest Write = ⊤

-- the first lines of the bytes of a file were split, and then a fault came
pub record StopsIn (call : Call) (before : List WrittenFile) (lines : List FileLine) (file : ℕ)
    (bytes : List ℕ) (at_end : Bool) (written : List WrittenFile) (fault : SplitFault)
    : Type 0 where
  pub done : List FileLine
  pub rest : List FileLine
  pub split : lines_from file 1 (input_lines bytes) ≡ done ++ rest
  pub good : All IsGood done
  pub begun : IsBegun call before (lines ++ done) written
  pub cause : FileCause file at_end rest fault

-- the same, whatever lines the files had before
abbrev pub FileStops : {P : Type 0} → Call → ℕ → List ℕ → Bool → (P → List WrittenFile) → P → P
    → Pending → SplitFault → Type 0
FileStops call file bytes at_end written start now pending fault =
    (before : List WrittenFile) (lines : List FileLine)
    → Tells call before lines (written start) pending
    → StopsIn call before lines file bytes at_end (written now) fault

-- what a fault tells of all that was read
abbrev pub RunCause : List Reading → SplitFault → Type 0
RunCause readings Arguments = ⊥
RunCause readings Memory = ⊤
RunCause readings (BadLine file line why) = IsFirstBad readings file line why
RunCause readings (File index) = (length readings ≡ index + 1) × AreGoodButLast readings
RunCause readings Write = ⊤

-- the first of the lines that were read were written, and then a fault came
pub record LinesStop (call : Call) (before : List WrittenFile) (readings : List Reading)
    (written : List WrittenFile) (fault : SplitFault) : Type 0 where
  pub lines : List FileLine
  pub rest : List FileLine
  pub split : all_lines readings ≡ lines ++ rest
  pub good : All IsGood lines
  pub begun : IsBegun call before lines written
  pub cause : RunCause readings fault

-- the files of a call were read and split
pub record FilesSplit {P : Type 0} (call : Call) (written : P → List WrittenFile)
    (faults : P → ℕ) (old new : P) (pending later : Pending) (given_before given_now : List Reading)
    : Type 0 where
  pub readings : List Reading
  pub given : given_now ≡ given_before ++ readings
  pub reads : ReadsAll call readings
  pub split : Splits call (all_lines readings) all_split written faults old new pending later

-- the first of them were, and then a fault came
pub record FilesStop {P : Type 0} (call : Call) (written : P → List WrittenFile) (old new : P)
    (pending : Pending) (given_before given_now : List Reading) (fault : SplitFault) : Type 0 where
  pub readings : List Reading
  pub given : given_now ≡ given_before ++ readings
  pub reads : ReadsFirst call readings
  pub stops : (before : List WrittenFile) → Tells call before [] (written old) pending
      → LinesStop call before readings (written new) fault

-- a file was read to its end, and its lines were split
pub record FileSplit {P : Type 0} (call : Call) (file : ℕ) (name : List ℕ)
    (written : P → List WrittenFile) (faults : P → ℕ) (old new : P) (pending later : Pending)
    (given_before given_now : List Reading) : Type 0 where
  pub bytes : List ℕ
  pub given :
      given_now ≡ given_before ++ record { name = name; bytes = bytes; at_end = true } ∷ []
  pub split : Splits call (lines_from file 1 (input_lines bytes)) all_split written faults old new
      pending later

-- some of it was read, and then a fault came
pub record FileStop {P : Type 0} (call : Call) (file : ℕ) (name : List ℕ)
    (written : P → List WrittenFile) (old new : P) (pending : Pending)
    (given_before given_now : List Reading) (fault : SplitFault) : Type 0 where
  pub bytes : List ℕ
  pub at_end : Bool
  pub given :
      given_now ≡ given_before ++ record { name = name; bytes = bytes; at_end = at_end } ∷ []
  pub stops : FileStops call file bytes at_end written old new pending fault

-- the open file was read to its end, whose reading began empty, and the last line is carried
pub record ReadsOn {P : Type 0} (call : Call) (file : ℕ) (first : List Reading) (name : List ℕ)
    (written : P → List WrittenFile) (faults : P → ℕ) (start now : P) (pending later : Pending)
    (given_now : List Reading) (rest : List ℕ) (number : ℕ) : Type 0 where
  pub bytes : List ℕ
  pub given : given_now ≡ first ++ record { name = name; bytes = bytes; at_end = true } ∷ []
  pub carried : Carried call file bytes written faults start now pending later rest number

-- a call read these files and made these, and ended so
pub record CallRuns (call : Call) (given_before given_now : List Reading)
    (written_before written_now : List WrittenFile) (outcome : Outcome) : Type 0 where
  pub readings : List Reading
  pub made : List WrittenFile
  pub given : given_now ≡ given_before ++ readings
  pub written : written_now ≡ written_before ++ made
  pub explains : Explains call readings made outcome
