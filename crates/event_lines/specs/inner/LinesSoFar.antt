-- What is kept of the lines so far.
use Rattle.std.specs.Prelude.{List, Result, Ok, Err}
use Rattle.event_lines.specs.declared.line.Line.{Line}
use Rattle.event_lines.specs.declared.lines_so_far.LinesSoFar.{LinesSoFar}
use Rattle.event_lines.specs.declared.lines_so_far.LinesSoFar.TheVariants.{Good, Bad}
use Rattle.event_lines.specs.InputLines.{LineFault}

-- the lines so far, or the first bad one
abbrev pub said_so_far : LinesSoFar → Result (List Line) LineFault
said_so_far (Good lines) = Ok lines
said_so_far (Bad line why) = Err (record { line = line; why = why })
