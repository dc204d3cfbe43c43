use Rattle.std.proofs.Common.{None, take}
use Rattle.span_lines.specs.inner.LentMappings.{mapping_lent}
use Rattle.span_lines.specs.inner.Printed.{piece_through}
use Rattle.span_lines.proofs.StepLemmas.{named_more, text_more}
use Rattle.span_lines.proofs.threads.print_steps.Goals as goal

pub loop-step-preserved : goal.loop-step-preserved
loop-step-preserved c =
    let m = mapping_lent c.args.mapping.now in
    let steps = c.args.steps.now in
    let i = c.loop-step.step-index in
    let inv = c.loop-step.invariant in
    let own = c.in_ok-name_task.ensures (piece_through None (take i steps)) inv.named in
    record {
      text = text_more m c.args.request.now c.args.thread None steps i _ c.loop-step-test.true c.args.text.now.items c.loop-step.text.items c.push_step.new.text.items c.name_task.new.task inv.text c.in_ok-push_step.ensures own;
      named = named_more m c.args.request.now c.args.thread None steps i _ c.loop-step-test.true c.name_task.new.task own;
    }
