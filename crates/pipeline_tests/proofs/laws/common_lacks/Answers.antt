use Rattle.pipeline_tests.proofs.SurvivorLemmas.{common_lacks}
use Rattle.pipeline_tests.proofs.laws.common_lacks.Goals as goal

pub returns : goal.returns
returns c = common_lacks
