use Rattle.pipeline_tests.proofs.SurvivorLemmas.{survivors_are_unique}
use Rattle.pipeline_tests.proofs.laws.survivors_are_unique.Goals as goal

pub returns : goal.returns
returns c = survivors_are_unique c.meet_begins.ensures c.meet_is_unique.ensures
