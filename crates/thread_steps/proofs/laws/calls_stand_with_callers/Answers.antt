use Rattle.thread_steps.proofs.LawLemmas.{calls_stand_with_callers}
use Rattle.thread_steps.proofs.laws.calls_stand_with_callers.Goals as goal

pub returns : goal.returns
returns c = calls_stand_with_callers
