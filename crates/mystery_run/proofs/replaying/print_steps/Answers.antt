use Rattle.std.proofs.Common.{arith, ◌∙◌}
use Rattle.std.proofs.lemmas.Result.{err_from_is_err_and}
use Rattle.text_rows.proofs.PrintLemmas.{prints_part}
use Rattle.mystery_run.proofs.ReplayLemmas.{state_more, step_printed, step_cut}
use Rattle.mystery_run.proofs.replaying.print_steps.Goals as goal

pub loop-event-preserved : goal.loop-event-preserved
loop-event-preserved g c = record {
  state = state_more c.args.machine.now c.args.events.now c.loop-event.event-index c.event-item.result c.loop-event-test.true c.event-item.is c.loop-event.machine c.print_step.new.machine c.loop-event.invariant.state c.in_ok-print_step.ensures.stepped;
  seats = omega (arith, c.loop-event.invariant.seats, c.in_ok-print_step.ensures.seats);
  prints = step_printed c.args.machine.now c.args.events.now c.loop-event.event-index c.event-item.result c.loop-event-test.true c.event-item.is c.texts_follow.ensures.prints c.loop-event.machine _ _ _ _ _ _ c.loop-event.invariant.state c.loop-event.invariant.prints c.in_ok-print_step.ensures.prints.all;
  counted = c.in_ok-print_step.ensures.prints.counted ∙ c.loop-event.invariant.counted;
}

pub returns-in_err-print_step : goal.returns-in_err-print_step
returns-in_err-print_step g c =
    let p = err_from_is_err_and c.from_residual.result c.from_residual.ensures.1 in
    rw (p.1, p.2) (prints_part g.S.Sink.written g.S.Sink.faults _ c.args.out.now c.loop-event.out _ _ _ _ c.loop-event.invariant.counted c.in_err-print_step.ensures.prints.counted
    (step_cut c.args.machine.now c.args.events.now c.loop-event.event-index c.event-item.result c.loop-event-test.true c.event-item.is c.texts_follow.ensures.prefix c.texts_follow.ensures.goes_on c.loop-event.machine _ _ _ _ _ c.loop-event.invariant.state c.loop-event.invariant.prints c.in_err-print_step.ensures.prints.prefix))
