use Rattle.std.proofs.lemmas.Result.{err_from_is_err_and}
use Rattle.event_lines.specs.LinesTaken.{LinesTaken}
use Rattle.event_lines.specs.inner.LinesSoFar.{said_so_far}
use Rattle.event_lines.proofs.TakingLemmas.{finished_lines, finished_error}
use Rattle.event_lines.proofs.line_reader.LineReader.finish.Goals as goal

pub returns-clause-lines_read : goal.returns-clause-lines_read
returns-clause-lines_read c =
    let taken : LinesTaken = record { ended = said_so_far c.self.inside.lines; number = c.self.inside.number; rest = c.self.inside.rest.items } in
    let read = c.in_ok-join_readings.ensures _ _ _ c.into_reading.ensures (rw c.deref.ensures.value at c.read_piece.ensures) in
    rw (← c.self.view_is) (finished_lines taken c.in_ok-join_readings.field-0.lines read.0)

pub returns-in_err-join_readings-clause-first_bad : goal.returns-in_err-join_readings-clause-first_bad
returns-in_err-join_readings-clause-first_bad c =
    let p = err_from_is_err_and c.from_residual.result c.from_residual.ensures.1 in
    let taken : LinesTaken = record { ended = said_so_far c.self.inside.lines; number = c.self.inside.number; rest = c.self.inside.rest.items } in
    let read = c.in_err-join_readings.ensures _ _ _ c.into_reading.ensures (rw c.deref.ensures.value at c.read_piece.ensures) in
    rw (p.1, p.2, ← c.self.view_is) (finished_error taken _ read)
