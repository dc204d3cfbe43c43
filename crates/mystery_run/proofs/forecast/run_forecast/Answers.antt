use Rattle.mystery_run.proofs.EndingLemmas.{no_memory}
use Rattle.mystery_run.proofs.forecast.run_forecast.Goals as goal

pub returns-in-Err-clause-ends : goal.returns-in-Err-clause-ends
returns-in-Err-clause-ends g c = no_memory _ _ _
