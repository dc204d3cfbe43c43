use Rattle.mystery_run.specs.declared.input.Input.TheVariants.{Bad, Lines}
use Rattle.mystery_run.proofs.InputLemmas.{lines_are_read}
use Rattle.mystery_run.proofs.readings.read_input_lines.Goals as goal

pub returns-in-Ok-clause-input : goal.returns-in-Ok-clause-input
returns-in-Ok-clause-input g c =
    let read = c.in_ok-intake.ensures in
    lines_are_read c.in_ok-intake.intake.reader _ (Lines c.in-Ok.lines) read.input read.fits c.in-Ok.ensures.lines_read (λ e. (_, e, read.fits))

pub returns-in-Err-Bad-clause-input : goal.returns-in-Err-Bad-clause-input
returns-in-Err-Bad-clause-input g c =
    let read = c.in_ok-intake.ensures in
    lines_are_read c.in_ok-intake.intake.reader _ (Bad c.in-Err-Bad.line c.in-Err-Bad.why) read.input read.fits (rw c.in-Err-Bad.field-0-is at c.in-Err-Bad.ensures.first_bad) (λ e. tt)
