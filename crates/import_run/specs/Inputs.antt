-- What the files of an input say.
use Rattle.std.specs.Prelude.{ℕ, ◌+◌, List, [], ◌∷◌, ◌++◌, length, map, Result, Ok, Err, sum_by}
use Rattle.event_lines.specs.InputLines.{LineFault, lines_said}
use Rattle.event_lines.specs.declared.line.Line.{Line}
use Rattle.event_lines.specs.declared.why.Why.{Why}
use Rattle.mystery_io.specs.Readings.{Reading}

-- the most bytes that the files of an input may have together: 256 MiB
abbrev pub input_limit : ℕ
input_limit = 268435456

-- a bad line: the index of its file, from 0, its number in the file, from 1, and why it is bad
pub record FileFault : Type 0 where
  pub file : ℕ
  pub line : ℕ
  pub why : Why

-- what a file with this index and then those after it say
abbrev pub said_after : ℕ → Result (List Line) LineFault → Result (List Line) FileFault
    → Result (List Line) FileFault
said_after file (Ok lines) (Ok more) = Ok (lines ++ more)
said_after file (Ok lines) (Err fault) = Err fault
said_after file (Err fault) more =
    Err (record { file = file; line = fault.line; why = fault.why })

-- what files say, of which the first has this index
abbrev pub files_said_from : ℕ → List (List ℕ) → Result (List Line) FileFault
files_said_from file [] = Ok []
files_said_from file (bytes ∷ later) =
    said_after file (lines_said bytes) (files_said_from (file + 1) later)

-- the lines of files, or the first bad one
abbrev pub files_said : List (List ℕ) → Result (List Line) FileFault
files_said inputs = files_said_from 0 inputs

-- the bytes that readings gave, and how many they are together
abbrev pub bytes_given : List Reading → List (List ℕ)
bytes_given readings = map (λ (r : Reading). r.bytes) readings

abbrev pub size_given : List Reading → ℕ
size_given readings = sum_by (λ (r : Reading). length r.bytes) readings
