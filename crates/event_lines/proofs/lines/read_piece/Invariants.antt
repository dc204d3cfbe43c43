use Rattle.std.proofs.Common.{◌≡◌, ◌+◌, ◌-◌, ◌≤◌, length, drop, Ok}
use Rattle.event_lines.specs.Cut.{input_lines}
use Rattle.event_lines.specs.InputLines.{both_said, lines_said_from}
use Rattle.event_lines.proofs.lines.read_piece.Given as goal

-- the lines so far and those of the rest are those of all, in what they say and in number
abbrev pub invariant-lines : goal.invariant-lines
invariant-lines l = record {
  within : l.start ≤ length l.bytes;
  few : l.number ≤ l.start + l.first;
  numbered : l.number + length (input_lines (drop l.start l.bytes)) ≡ l.first + length (input_lines l.bytes);
  told : both_said (Ok l.lines) (lines_said_from l.number (input_lines (drop l.start l.bytes))) ≡ lines_said_from l.first (input_lines l.bytes);
}

abbrev pub decreases-lines : goal.decreases-lines
decreases-lines l = length l.bytes - l.start
