use Rattle.std.proofs.Common.{◌≡◌, ◌∷◌, Ok, rules}
use Rattle.span_text.specs.Outcomes.{after}
use Rattle.otlp_spans.specs.SpansOfFiles.{line_said}
use Rattle.otlp_spans.specs.inner.Lines.{lines_left, line_view}
use Rattle.otlp_spans.proofs.LineLemmas.{line_read}
use Rattle.otlp_spans.proofs.file_lines.read_lines.Goals as goal

pub lines-preserved : goal.lines-preserved
lines-preserved c =
    let taken : lines_left c.lines.left ≡ line_view c.in-Some.line ∷ lines_left c.next_line.new.self = search rules in
    let read : after c.lines.spans.items (line_said (line_view c.in-Some.line)) ≡ Ok c.read_text.new.spans.items = search rules in
    record {
      same = line_read _ _ _ _ _ _ taken read c.lines.invariant.same;
      few = search rules;
    }
