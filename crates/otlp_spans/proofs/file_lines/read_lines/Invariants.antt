use Rattle.std.proofs.Common.{◌≡◌, length}
use Rattle.span_text.specs.Outcomes.{after}
use Rattle.otlp_spans.specs.SpansOfFiles.{lines_said}
use Rattle.otlp_spans.specs.inner.Lines.{lines_left, AreFew}
use Rattle.otlp_spans.proofs.file_lines.read_lines.Given as goal

-- what was read, and what is said of the lines that are left
abbrev pub invariant-lines : goal.invariant-lines
invariant-lines l = record {
  same : after l.spans.items (lines_said (lines_left l.left)) ≡ after l.fn.spans.items (lines_said (lines_left l.fn.left));
  few : AreFew l.left;
}

abbrev pub decreases-lines : goal.decreases-lines
decreases-lines l = length (lines_left l.left)
