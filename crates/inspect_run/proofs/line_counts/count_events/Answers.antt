use Rattle.std.proofs.Common.{ap, arith, length}
use Rattle.event_lines.specs.declared.line_run.LineRun.{LineRun}
use Rattle.inspect_run.proofs.CountLemmas.{events_more, events_within}
use Rattle.inspect_run.proofs.line_counts.count_events.Goals as goal

pub overflow_add-count : goal.overflow_add-count
overflow_add-count c =
    let run = c.run-item.result in
    let same = ap (λ (r : LineRun). length r.events) c.run-item.is in
    omega (arith, c.requires, c.loop-run.invariant, c.len-count.ensures, same, events_within c.args.runs.now c.loop-run.run-index run c.loop-run-test.true)

pub loop-run-preserved : goal.loop-run-preserved
loop-run-preserved c =
    let run = c.run-item.result in
    let same = ap (λ (r : LineRun). length r.events) c.run-item.is in
    omega (arith, c.loop-run.invariant, c.len-count.ensures, same, events_more c.args.runs.now c.loop-run.run-index run c.loop-run-test.true)
