use Rattle.std.proofs.Common.{ap, arith, length}
use Rattle.event_lines.specs.LineParts.{lines_of_run}
use Rattle.event_lines.specs.declared.line_run.LineRun.{LineRun}
use Rattle.inspect_run.proofs.CountLemmas.{lines_within, run_within}
use Rattle.inspect_run.proofs.line_counts.count_lines.Goals as goal

pub count_in_run-count-requires : goal.count_in_run-count-requires
count_in_run-count-requires c =
    let run = c.run-item.result in
    let same = ap (λ (r : LineRun). length (lines_of_run r)) c.run-item.is in
    omega (arith, c.requires, same, run_within c.args.runs.now c.loop-run.run-index run c.loop-run-test.true)

pub overflow_add-count : goal.overflow_add-count
overflow_add-count c =
    let run = c.run-item.result in
    let same = ap (λ (r : LineRun). length (lines_of_run r)) c.run-item.is in
    omega (arith, c.requires, c.loop-run.invariant, c.count_in_run-count.ensures, same, lines_within c.args.runs.now c.loop-run.run-index run c.loop-run-test.true)
