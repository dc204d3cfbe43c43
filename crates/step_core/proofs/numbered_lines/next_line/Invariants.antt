use Rattle.std.proofs.Common.{◌≡◌, ◌+◌, ◌≤◌, option_copied}
use Rattle.step_core.specs.LinesLeft.{lines_left, room_left}
use Rattle.step_core.proofs.numbered_lines.next_line.Given as goal

-- only blank lines were passed
abbrev pub invariant-lines : goal.invariant-lines
invariant-lines l = record {
  later : l.initial.number ≤ l.number;
  lines : lines_left l.number (option_copied l.left) ≡ lines_left l.initial.number (option_copied l.initial.left);
  room : l.number + room_left (option_copied l.left) ≤ l.initial.number + room_left (option_copied l.initial.left);
}

abbrev pub decreases-lines : goal.decreases-lines
decreases-lines l = room_left (option_copied l.left)
