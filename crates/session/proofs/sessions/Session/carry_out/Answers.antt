use Rattle.std.proofs.lemmas.Result.{err_from_is_err_and}
use Rattle.session.proofs.CarryLemmas.{job_carried, job_flush_cut}
use Rattle.session.proofs.sessions.Session.carry_out.Goals as goal

pub returns-in_err-flush-clause-cause : goal.returns-in_err-flush-clause-cause
returns-in_err-flush-clause-cause g c =
    let p = err_from_is_err_and c.from_residual-in_err-flush.result c.from_residual-in_err-flush.ensures.1 in
    rw (p.1, p.2) (λ s shown. job_flush_cut g.S.Sink.written g.S.Sink.faults c.args.self.workers c.args.job s c.print_job.new.self c.flush_ends_parts.ensures.prefix c.in_err-flush.field-0.0 c.args.out.now c.print_job.new.sink _ c.new-buffer.result c.print_job.new.buffer c.new-buffer.ensures
    (c.in_ok-print_job.ensures.stepped s shown) c.in_err-flush.ensures.prefix)

pub returns-clause-carried : goal.returns-clause-carried
returns-clause-carried g c = λ s shown. job_carried g.S.Sink.written g.S.Sink.faults c.args.self.workers c.args.job s c.print_job.new.self c.flush_ends_parts.ensures.whole c.args.out.now c.print_job.new.sink (g.S.Sink.written c.flush.new.sink) c.new-buffer.result c.print_job.new.buffer c.new-buffer.ensures
    (c.in_ok-print_job.ensures.stepped s shown) c.in_ok-flush.ensures.all
