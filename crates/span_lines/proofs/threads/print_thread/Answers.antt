use Rattle.std.proofs.Common.{◌∙◌, None, ap, get_or, length, sym}
use Rattle.span_lines.specs.inner.LentMappings.{mapping_lent}
use Rattle.span_lines.proofs.StepLemmas.{lines_count}
use Rattle.span_lines.proofs.threads.print_thread.Goals as goal

pub returns-clause-count : goal.returns-clause-count
returns-clause-count c =
    c.len.ensures ∙ c.in_ok-steps.steps.ok.0 ∙ ap length c.in_ok-steps.ensures.steps
    ∙ sym (lines_count (mapping_lent c.args.mapping.now) c.args.request.now (get_or c.args.mapping.now.numbers.now c.args.call 0) None _)
