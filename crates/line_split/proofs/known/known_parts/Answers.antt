use Rattle.std.proofs.Common.{◌≡◌, ◌≤◌, ◌∙◌, ℕ, List, Global, length, ap, arith, subst}
use Rattle.std.specs.declared.vec.Vec.{Vec}
use Rattle.event_lines.specs.Cut.{input_lines}
use Rattle.event_lines.specs.LineParts.{lines_of_runs}
use Rattle.event_lines.specs.declared.line.Line.{Line}
use Rattle.event_lines.specs.declared.line_run.LineRun.{LineRun}
use Rattle.line_split.specs.Lines.{longest_line}
use Rattle.line_split.specs.inner.Calls.{call_of_line}
use Rattle.line_split.specs.inner.Known.{AreKnown, ArePartsSaid}
use Rattle.line_split.proofs.KnownLemmas.{known_read, known_result}
use Rattle.line_split.proofs.known.known_parts.Goals as goal

pub returns-in-Ok : goal.returns-in-Ok
returns-in-Ok g c =
    let call = call_of_line c.args.call in
    let bytes = c.args.bytes.now in
    let le : length bytes ≤ longest_line = omega arith in
    let runs : lines_of_runs c.deref.result.now ≡ c.in-Ok.lines = ap (λ (rs : List LineRun). lines_of_runs rs) c.deref.ensures.value ∙ c.into_runs.ensures in
    known_result (λ (v : Vec ℕ Global). v.items) c.parts_of.result (ArePartsSaid call (lines_of_runs c.deref.result.now)) (AreKnown call (input_lines bytes))
    (λ xs h. known_read call bytes c.in-Ok.lines xs le c.in-Ok.ensures.lines_read (subst (λ (ls : List Line). ArePartsSaid call ls xs) runs h)) c.parts_of.ensures
