use Rattle.std.proofs.Common.{ap, subst}
use Rattle.import_run.specs.inner.Taken.{HasTaken, form_of_input}
use Rattle.import_run.proofs.TakenLemmas.{lines_step, lines_stop, spans_step, spans_stop}
use Rattle.import_run.proofs.input.Input.take_file.Goals as goal

pub returns-in-Lines-clause-taken : goal.returns-in-Lines-clause-taken
returns-in-Lines-clause-taken g c = lines_step c.append_lines.result c.args.self.now c.args.index c.args.bytes.now c.in-Lines.runs.items c.append_lines.new.runs.items (λ inputs h. subst (λ i. HasTaken i inputs) c.in-Lines.is h) c.append_lines.ensures.appended

pub returns-in-Lines-clause-cause : goal.returns-in-Lines-clause-cause
returns-in-Lines-clause-cause g c = lines_stop c.append_lines.result c.args.self.now c.args.index c.args.bytes.now c.in-Lines.runs.items (λ inputs h. subst (λ i. HasTaken i inputs) c.in-Lines.is h) (ap form_of_input c.in-Lines.is) c.append_lines.ensures.cause

pub returns-in-Spans-clause-taken : goal.returns-in-Spans-clause-taken
returns-in-Spans-clause-taken g c = spans_step c.append_spans.result c.args.self.now c.args.index c.args.bytes.now _ _ _ c.in-Spans.is c.append_spans.ensures.appended

pub returns-in-Spans-clause-cause : goal.returns-in-Spans-clause-cause
returns-in-Spans-clause-cause g c = spans_stop c.append_spans.result c.args.self.now c.args.index c.args.bytes.now _ _ c.in-Spans.is c.append_spans.ensures.cause
