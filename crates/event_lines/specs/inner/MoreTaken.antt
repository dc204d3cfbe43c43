-- A reader that begins where another stands, so that the other stays as it is until all is taken.
use Rattle.std.specs.Prelude.{◌≡◌, List, Result}
use Rattle.event_lines.specs.declared.line.Line.{Line}
use Rattle.event_lines.specs.InputLines.{LineFault, both_said}
use Rattle.event_lines.specs.LinesTaken.{LinesTaken}

-- a reader begins where another stands: after the other's lines, its own say what later lines say
pub record IsBegun (taken begun : LinesTaken) : Type 0 where
  pub ended : (later : Result (List Line) LineFault)
      → both_said taken.ended (both_said begun.ended later) ≡ both_said taken.ended later
  pub number : begun.number ≡ taken.number
  pub rest : begun.rest ≡ taken.rest

-- what a reader took, and then what one took that began there
abbrev pub with_later : LinesTaken → LinesTaken → LinesTaken
with_later taken later = record {
  ended = both_said taken.ended later.ended;
  number = later.number;
  rest = later.rest;
}
