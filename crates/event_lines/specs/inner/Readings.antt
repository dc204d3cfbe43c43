-- What a reading of lines gives, beside what the lines say.
use Rattle.std.specs.Prelude.{ℕ, ◌≡◌, ◌+◌, List, [], ◌∷◌, ◌++◌, length, Result, Ok, Err, IsOkAnd}
use Rattle.event_lines.specs.declared.line.Line.{Line}
use Rattle.event_lines.specs.declared.why.Why.{Why}
use Rattle.event_lines.specs.declared.line_error.LineError.{LineError}
use Rattle.event_lines.specs.declared.lines_read.LinesRead.{LinesRead}
use Rattle.event_lines.specs.Cut.{input_lines}
use Rattle.event_lines.specs.InputLines.{LineFault, IsLineError, lines_said_from}

-- the lines are what is said, or this is why they were not read
abbrev pub IsReading : Result (List Line) LineFault → Result (List Line) LineError → Type 0
IsReading said (Ok lines) = said ≡ Ok lines
IsReading said (Err error) = IsLineError said error

-- the lines are what is said and the next line has this number, or this is why they were not read
abbrev pub IsNumberedReading : Result (List Line) LineFault → ℕ → Result LinesRead LineError
    → Type 0
IsNumberedReading said next (Ok read) = (said ≡ Ok read.lines) × (next ≡ read.last + 1)
IsNumberedReading said next (Err error) = IsLineError said error

-- bytes were read whose lines are numbered from n on, or this is why they were not
abbrev pub IsReadingFrom : ℕ → List ℕ → Result LinesRead LineError → Type 0
IsReadingFrom n bytes result =
    IsNumberedReading (lines_said_from n (input_lines bytes)) (n + length (input_lines bytes))
    result

-- the line that is said was appended, or this is why it is bad
abbrev pub IsLineAdded : Result Line Why → List Line → List Line → Result (Unit {0}) Why → Type 0
IsLineAdded said old new (Ok done) = IsOkAnd said (λ line. new ≡ old ++ line ∷ [])
IsLineAdded said old new (Err why) = said ≡ Err why
