use Rattle.std.proofs.Common.{◌+◌, arith, take}
use Rattle.event_lines.specs.LineParts.{lines_of_control, lines_of_events, lines_of_runs}
use Rattle.event_rewrite.specs.WithoutWaits.{with_tasks_from}
use Rattle.event_text.specs.LineTexts.{lines_text}
use Rattle.event_rewrite.proofs.WalkLemmas.{count_next, print_next, runs_within, text_next}
use Rattle.event_rewrite.proofs.printing.print_runs.Goals as goal

pub print_events-requires : goal.print_events-requires
print_events-requires c = record {
  within = omega (arith, runs_within c.args.runs.now c.loop-run.run-index c.run-item.result c.loop-run-test.true c.run-item.is, c.loop-run.invariant.first, c.requires.within);
  few = c.requires.few;
}

pub overflow_add-first : goal.overflow_add-first
overflow_add-first c =
    omega (arith, runs_within c.args.runs.now c.loop-run.run-index c.run-item.result c.loop-run-test.true c.run-item.is, c.loop-run.invariant.first, c.requires.within, c.requires.few, c.len-first.ensures)

pub loop-run-preserved : goal.loop-run-preserved
loop-run-preserved c =
    let runs = c.args.runs.now in
    let names = c.args.names.now in
    let at = c.loop-run.invariant in
    let i = c.loop-run.run-index in
    let run = c.run-item.result in
    record {
      text = print_next c.args.bytes.now.items c.loop-run.bytes.items c.print_events.new.bytes.items c.print_control.new.bytes.items (lines_text (with_tasks_from names 0 (lines_of_runs (take i runs))))
          (lines_text (with_tasks_from names c.loop-run.first (lines_of_events run.events))) (lines_text (lines_of_control run.control)) (lines_text (with_tasks_from names 0 (lines_of_runs (take (i + 1) runs))))
          at.text c.in_ok-print_events.ensures c.in_ok-print_control.ensures (text_next runs i run c.loop-run-test.true c.run-item.is names c.loop-run.first at.first);
      first = omega (arith, count_next runs i run c.loop-run-test.true c.run-item.is, at.first, c.len-first.ensures);
    }
