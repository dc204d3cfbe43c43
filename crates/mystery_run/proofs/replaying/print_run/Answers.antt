use Rattle.std.proofs.lemmas.Result.{err_from_is_err_and}
use Rattle.word_rows.specs.Machine.{opening_state}
use Rattle.mystery_run.specs.ReplayTexts.{opened_row}
use Rattle.mystery_run.specs.inner.Replaying.{steps_text}
use Rattle.mystery_run.proofs.replaying.print_run.Goals as goal

pub returns-in_err-print_numbers : goal.returns-in_err-print_numbers
returns-in_err-print_numbers g c =
    let p = err_from_is_err_and c.from_residual-in_err-print_numbers.result c.from_residual-in_err-print_numbers.ensures.1 in
    rw (p.1, p.2) (c.calls_follow.ensures.goes_on _ _ _ _ c.print_numbers.new.buffer _ (opened_row c.args.start) (steps_text (opening_state c.args.start.width c.args.start.shares) c.args.events.now) (rw (c.from-width.ensures, c.from-shares.ensures) at c.in_err-print_numbers.ensures))

pub returns : goal.returns
returns g c =
    c.calls_follow.ensures.follow _ _ _ _ _ _ _ _ (opened_row c.args.start) (steps_text (opening_state c.args.start.width c.args.start.shares) c.args.events.now) (rw (c.from-width.ensures, c.from-shares.ensures) at c.in_ok-print_numbers.ensures) (rw c.in_ok-machine.ensures at c.print_steps.ensures)
