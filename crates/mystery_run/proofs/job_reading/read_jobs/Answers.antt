use Rattle.std.proofs.Common.{[], arith}
use Rattle.mystery_run.proofs.InputLemmas.{good_bytes}
use Rattle.mystery_run.proofs.LastJobLemmas.{jobs_ready}
use Rattle.mystery_run.proofs.job_reading.read_jobs.Goals as goal

pub returns-clause-ready : goal.returns-clause-ready
returns-clause-ready g c =
    let law = c.lines_of_an_input_are_good.ensures in
    let good = good_bytes c.args.input c.in_ok-lines.lines c.requires.within c.in_ok-lines.ensures.lines in
    jobs_ready c.jobs_are_ready.ensures c.in_ok-lines.lines (law.timely good.0 _ good.1) (law.limited good.0 _ good.1) (omega (arith, law.few good.0 c.in_ok-lines.lines good.1, good.2)) c.args.last c.in_ok-make_jobs.field-0.items c.requires.last (c.in_ok-make_jobs.ensures [])
