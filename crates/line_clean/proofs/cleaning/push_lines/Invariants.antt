use Rattle.std.proofs.Common.{◌≡◌, ◌<◌, ◌≤◌, ◌-◌, ◌++◌, drop, length}
use Rattle.event_lines.specs.Cut.{input_lines}
use Rattle.line_clean.specs.Lines.{clean_text}
use Rattle.line_clean.specs.inner.Judging.{IsFirstBad}
use Rattle.line_clean.proofs.cleaning.push_lines.Given as goal

-- the good ones of the lines so far were appended, and the first bad line is still to come
abbrev pub invariant-lines : goal.invariant-lines
invariant-lines l = record {
  within : l.at ≤ length l.bytes;
  known : l.at < length l.bytes → IsFirstBad l.number l.bad (input_lines (drop l.at l.bytes));
  text : l.fn.text.items ++ clean_text (input_lines l.bytes) ≡ l.text.items ++ clean_text (input_lines (drop l.at l.bytes));
}

abbrev pub decreases-lines : goal.decreases-lines
decreases-lines l = length l.bytes - l.at
