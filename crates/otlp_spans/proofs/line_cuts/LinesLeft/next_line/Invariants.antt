use Rattle.std.proofs.Common.{◌≡◌, length}
use Rattle.otlp_spans.specs.inner.Lines.{all_left, lines_left, AreFew}
use Rattle.otlp_spans.proofs.line_cuts.LinesLeft.next_line.Given as goal

-- the lines that were passed over are blank
abbrev pub invariant-lines : goal.invariant-lines
invariant-lines l = record { same : lines_left l.self ≡ lines_left l.fn.self; few : AreFew l.self }

abbrev pub decreases-lines : goal.decreases-lines
decreases-lines l = length (all_left l.self)
