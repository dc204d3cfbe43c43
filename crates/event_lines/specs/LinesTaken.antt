-- A reader of lines that takes an input in pieces, and what it says of the bytes.
use Rattle.std.specs.Prelude.{ℕ, ◌≡◌, ◌≤◌, ◌+◌, ◌-◌, ◌^◌, ◌++◌, List, length, Result}
use Rattle.event_lines.specs.declared.line.Line.{Line}
use Rattle.event_lines.specs.Cut.{input_lines}
use Rattle.event_lines.specs.InputLines.{LineFault, both_said, lines_said_from}

-- what the lines that ended say, the number of the line that has not ended, and its bytes so far
pub record LinesTaken : Type 0 where
  pub ended : Result (List Line) LineFault
  pub number : ℕ
  pub rest : List ℕ

-- what the bytes that were taken say, and these after them
abbrev pub said_with : LinesTaken → List ℕ → Result (List Line) LineFault
said_with taken later =
    both_said taken.ended (lines_said_from taken.number (input_lines (taken.rest ++ later)))

-- how many bytes more are taken, so that the number of each line fits 32 bits
abbrev pub room_after : LinesTaken → ℕ
room_after taken = 2 ^ 32 - 1 - (taken.number + length taken.rest)

-- these bytes were taken: what is said with any later bytes is what was said with both
pub record TakesBytes (old : LinesTaken) (bytes : List ℕ) (new : LinesTaken) : Type 0 where
  pub said : (later : List ℕ) → said_with new later ≡ said_with old (bytes ++ later)
  pub room : room_after old ≤ room_after new + length bytes
