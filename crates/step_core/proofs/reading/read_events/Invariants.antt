use Rattle.std.proofs.Common.{◌≡◌, ◌+◌, ◌≤◌, length, option_copied}
use Rattle.step_core.specs.StepFiles.{steps_of_lines}
use Rattle.step_core.specs.LinesLeft.{lines_left, room_left}
use Rattle.step_core.proofs.FileLemmas.{after_steps}
use Rattle.step_core.proofs.reading.read_events.Given as goal

-- the steps so far and those of the lines that are left are those of all lines
abbrev pub invariant-lines : goal.invariant-lines
invariant-lines l = record {
  told : after_steps l.events.items (steps_of_lines (lines_left l.number (option_copied l.left))) ≡ steps_of_lines (lines_left l.initial.number (option_copied l.initial.left));
  room : l.number + room_left (option_copied l.left) ≤ l.initial.number + room_left (option_copied l.initial.left);
  few : length l.events.items + l.initial.number ≤ l.number;
}

abbrev pub decreases-lines : goal.decreases-lines
decreases-lines l = room_left (option_copied l.left)
