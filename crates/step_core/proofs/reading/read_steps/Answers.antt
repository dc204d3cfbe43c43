use Rattle.std.proofs.Common.{◌+◌, option_copied}
use Rattle.step_core.specs.LinesLeft.{lines_left}
use Rattle.step_core.proofs.FileLemmas.{steps_have_rows}
use Rattle.step_core.proofs.reading.read_steps.Goals as goal

pub returns-clause-rows : goal.returns-clause-rows
returns-clause-rows c =
    rw c.of-2.ensures (steps_have_rows (lines_left (c.in-Some.first.number + 1) (option_copied c.in-Some.first.rest)) c.in_ok-events.events.items c.in_ok-events.ensures.read)
