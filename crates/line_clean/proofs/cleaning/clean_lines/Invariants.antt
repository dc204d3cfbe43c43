use Rattle.std.proofs.Common.{◌≡◌, ◌≤◌, ◌-◌, ◌++◌, drop, length}
use Rattle.event_lines.specs.Cut.{input_lines}
use Rattle.line_clean.specs.Lines.{clean_text}
use Rattle.line_clean.proofs.cleaning.clean_lines.Given as goal

-- the good ones of the lines so far were appended
abbrev pub invariant-bad : goal.invariant-bad
invariant-bad g l = record {
  within : l.at ≤ length l.bytes;
  text : l.fn.text.items ++ clean_text (input_lines l.bytes) ≡ l.text.items ++ clean_text (input_lines (drop l.at l.bytes));
}

abbrev pub decreases-bad : goal.decreases-bad
decreases-bad g l = length l.bytes - l.at
