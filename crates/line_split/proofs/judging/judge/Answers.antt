use Rattle.std.proofs.Common.{◌≡◌, ◌≤◌, ◌∙◌, List, ap, arith, sym, length}
use Rattle.event_lines.specs.declared.line.Line.{Line}
use Rattle.event_lines.specs.declared.line_run.LineRun.{LineRun}
use Rattle.event_lines.specs.LineParts.{lines_of_runs}
use Rattle.line_split.specs.Lines.{longest_line}
use Rattle.line_split.specs.inner.Calls.{call_of_line}
use Rattle.line_split.specs.inner.Said.{first_said}
use Rattle.line_split.specs.inner.Steps.{part_said}
use Rattle.line_split.proofs.SaidLemmas.{request_read}
use Rattle.line_split.proofs.judging.judge.Goals as goal

pub returns-in-Ok-clause-part : goal.returns-in-Ok-clause-part
returns-in-Ok-clause-part g c =
    let call = call_of_line c.args.call in
    let le : length c.args.line.now ≤ longest_line = omega arith in
    let said = request_read c.args.line.now c.in-Ok.lines c.requires.one le c.in-Ok.ensures.lines_read in
    let runs : lines_of_runs c.deref.result.now ≡ c.in-Ok.lines = ap (λ (rs : List LineRun). lines_of_runs rs) c.deref.ensures.value ∙ c.into_runs.ensures in
    c.part_in.ensures.part ∙ ap (λ (ls : List Line). part_said call (first_said ls)) runs ∙ ap (part_said call) (sym said)
