-- What a run tells by how it ended, by what it read and by what it wrote.
use Rattle.std.specs.Prelude.{ℕ, ◌≡◌, ◌+◌, ◌-◌, ◌<◌, ◌≤◌, ◌⊎◌, List, [], ◌∷◌, ◌++◌, All}
use Rattle.std.specs.Prelude.{drop, length, map, take}
use Rattle.std.specs.Prelude.{Option, Some, None, Ok, Err}
use Rattle.mystery_io.specs.Readings.{AreEnded, AreEndedBeforeLast, Reading, new_readings}
use Rattle.output_files.specs.Written.{WrittenFile}
use Rattle.line_split.specs.declared.reason.Reason.{Reason}
use Rattle.line_split.specs.declared.split_fault.SplitFault.TheVariants.{Arguments, Memory, BadLine}
use Rattle.line_split.specs.declared.split_fault.SplitFault.TheVariants.{File, Write}
use Rattle.line_split.specs.CommandLines.{Call, call_of}
use Rattle.line_split.specs.Lines.{FileLine, IsGood, all_lines, longest_line, request_of}
use Rattle.line_split.specs.Messages.{Outcome}
use Rattle.line_split.specs.Parts.{AreBegun, ArePartsOf, counted}

-- the readings before the last one
abbrev pub before_last : List Reading → List Reading
before_last readings = take (length readings - 1) readings

-- the first files of a call were opened, one after another. All but the last were read to their
-- ends, and every line of those is good
pub record ReadsFirst (call : Call) (readings : List Reading) : Type 0 where
  pub named : map (λ (r : Reading). r.name) readings ≡ take (length readings) call.files
  pub ended : AreEndedBeforeLast readings
  pub good : All IsGood (all_lines (before_last readings))

-- each file of a call was opened and read to its end
pub record ReadsAll (call : Call) (readings : List Reading) : Type 0 where
  pub named : map (λ (r : Reading). r.name) readings ≡ call.files
  pub ended : AreEnded readings

-- every line that was read is good, but perhaps the last one, whose end may not have come
pub record AreGoodButLast (readings : List Reading) : Type 0 where
  pub lines : List FileLine
  pub rest : List FileLine
  pub split : all_lines readings ≡ lines ++ rest
  pub few : length rest ≤ 1
  pub good : All IsGood lines

-- the files were begun with the first of the lines that were read, which are good
pub record WritesFirst (call : Call) (readings : List Reading) (made : List WrittenFile)
    : Type 0 where
  pub lines : List FileLine
  pub rest : List FileLine
  pub split : all_lines readings ≡ lines ++ rest
  pub good : All IsGood lines
  pub begun : AreBegun call lines made

-- the first bad line of all that were read: those before it are good, and no file after its own was
-- opened. It is whole: a line follows it, or its file came to the end, or it is too long already
pub record IsFirstBad (readings : List Reading) (file number : ℕ) (why : Reason) : Type 0 where
  pub before : List FileLine
  pub bad : FileLine
  pub after : List FileLine
  pub split : all_lines readings ≡ before ++ bad ∷ after
  pub good : All IsGood before
  pub reason : request_of bad.bytes ≡ Err why
  pub of_file : file ≡ bad.file
  pub at_line : number ≡ counted bad.number
  pub last : length readings ≡ file + 1
  pub whole : (0 < length after) ⊎ AreEnded readings ⊎ (longest_line < length bad.bytes)

-- how a call that ended so read and wrote: what the reads gave, one reading a file that was opened,
-- and the files that were made, each with what was written to it
abbrev pub Explains : Call → List Reading → List WrittenFile → Outcome → Type 0
Explains call readings made (Ok done) =
    ReadsAll call readings × All IsGood (all_lines readings)
    × ArePartsOf call (all_lines readings) made
Explains call readings made (Err (BadLine file number why)) =
    ReadsFirst call readings × IsFirstBad readings file number why
    × WritesFirst call readings made
Explains call readings made (Err (File index)) =
    ReadsFirst call readings × (length readings ≡ index + 1) × AreGoodButLast readings
    × WritesFirst call readings made
Explains call readings made (Err Write) =
    ReadsFirst call readings × WritesFirst call readings made
Explains call readings made (Err Memory) =
    ReadsFirst call readings × WritesFirst call readings made
Explains call readings made (Err Arguments) = ⊥

-- the same of a call that may be none: then the arguments are outside the grammar, and nothing is
-- read or made
abbrev pub ExplainsAt : Option Call → List Reading → List WrittenFile → Outcome → Type 0
ExplainsAt None readings made outcome =
    (outcome ≡ Err Arguments) × (readings ≡ []) × (made ≡ [])
ExplainsAt (Some call) readings made outcome = Explains call readings made outcome

-- what a run saw: its arguments, what the reads gave of the files, one reading a file that was
-- opened, and the files that it made, each with what was written to it
pub record Seen : Type 0 where
  pub words : List (List ℕ)
  pub readings : List Reading
  pub made : List WrittenFile

-- the same, by the meanings of `Files` and `OutputFiles` and their states before and now
abbrev pub run_seen : {F P : Type 0} → List (List ℕ) → (F → List Reading) → F → F
    → (P → List WrittenFile) → P → P → Seen
run_seen words given files_old files_new written old new = record {
  words = words;
  readings = new_readings (given files_old) (given files_new);
  made = drop (length (written old)) (written new);
}

-- a run that ended so has its cause, and wrote what it should
abbrev pub RunExplains : Seen → Outcome → Type 0
RunExplains seen outcome = ExplainsAt (call_of seen.words) seen.readings seen.made outcome
