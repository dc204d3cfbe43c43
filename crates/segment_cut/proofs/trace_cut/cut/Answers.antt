use Rattle.std.proofs.lemmas.Result.{err_from_is_err_and}
use Rattle.segment_cut.proofs.FaultLemmas.{clock_fault}
use Rattle.segment_cut.proofs.trace_cut.cut.Goals as goal

pub returns-in_err-by_event-clause-err : goal.returns-in_err-by_event-clause-err
returns-in_err-by_event-clause-err c =
    let p = err_from_is_err_and c.from_residual-in_err-by_event.result c.from_residual-in_err-by_event.ensures.1 in
    rw (p.1, p.2) (clock_fault c.args.raw.now.trace.events c.in_err-by_event.field-0.0 c.in_ok-tasks.ensures.short c.in_ok-tasks.ensures.once c.in_err-by_event.ensures.err)
