use Rattle.mystery_run.proofs.EndingLemmas.{no_memory}
use Rattle.mystery_run.proofs.replay.replay_input.Goals as goal

pub returns-in-Err-Memory-clause-ends : goal.returns-in-Err-Memory-clause-ends
returns-in-Err-Memory-clause-ends g c = λ workers. no_memory workers _ _
