use Rattle.std.proofs.Common.{◌∙◌, ◌++◌, ap, sym}
use Rattle.std.proofs.lemmas.Result.{on_ok_weaker}
use Rattle.event_text.specs.LineTexts.{event_text}
use Rattle.thread_steps.specs.declared.step.Step.{Step}
use Rattle.span_lines.specs.Lines.{line_of}
use Rattle.span_lines.specs.inner.LentMappings.{mapping_lent}
use Rattle.span_lines.proofs.lines.push_step.Goals as goal

pub returns-in-Joins : goal.returns-in-Joins
returns-in-Joins c = on_ok_weaker c.push_join.result (λ h. h c.in-Joins.piece
    ∙ ap (λ (s : Step). c.args.text.now.items ++ event_text (line_of (mapping_lent c.args.mapping.now) c.args.request.now c.args.task.now s)) (sym c.in-Joins.is)) c.push_join.ensures
