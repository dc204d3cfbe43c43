use Rattle.mystery_run.proofs.EndingLemmas.{no_memory}
use Rattle.mystery_run.proofs.session_run.run_session.Goals as goal

pub returns-in-Err-Memory-clause-ends : goal.returns-in-Err-Memory-clause-ends
returns-in-Err-Memory-clause-ends g c = no_memory _ _ _

pub returns-in-Ok-clause-ends : goal.returns-in-Ok-clause-ends
returns-in-Ok-clause-ends g c = rw (c.in-Ok.ensures.said c.args.tables.items) c.carry_out.ensures.ends
