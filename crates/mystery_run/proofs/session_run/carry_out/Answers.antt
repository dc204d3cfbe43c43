use Rattle.mystery_run.proofs.EndingLemmas.{fault_ends, whole_ends}
use Rattle.mystery_run.proofs.session_run.carry_out.Goals as goal

pub run_jobs-requires-clause-table : goal.run_jobs-requires-clause-table
run_jobs-requires-clause-table g c = λ κs within.
    let merge = rw c.deref.ensures.value at c.in-Ok.ensures.merge in
    let is = merge c.requires.given.0 c.requires.given.1 in
    (c.requires.given.0, is.0, is.1)

pub returns-in-Ok-run_jobs-clause-ends : goal.returns-in-Ok-run_jobs-clause-ends
returns-in-Ok-run_jobs-clause-ends g c =
    let given = c.requires.given in
    let merge = rw c.deref.ensures.value at c.in-Ok.ensures.merge in
    let is = merge given.0 given.1 in
    whole_ends c.args.workers c.args.tables.items c.args.jobs.items given.0 given.1 is.1 _ _ (c.in-Ok-run_jobs.ensures.whole given.0 is.0)

pub returns-in-Err-clause-ends : goal.returns-in-Err-clause-ends
returns-in-Err-clause-ends g c =
    let given = c.requires.given in
    let merge = rw c.deref.ensures.value at c.in-Ok.ensures.merge in
    let is = merge given.0 given.1 in
    rw c.from.ensures (fault_ends c.args.workers c.args.tables.items c.args.jobs.items given.0 given.1 is.1 _ _ c.in-Err.fault (c.in-Err.ensures.fault given.0 is.0))
