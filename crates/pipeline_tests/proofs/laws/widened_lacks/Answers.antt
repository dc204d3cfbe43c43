use Rattle.pipeline_tests.proofs.SurvivorLemmas.{widened_lacks}
use Rattle.pipeline_tests.proofs.laws.widened_lacks.Goals as goal

pub returns : goal.returns
returns c = widened_lacks c.places_fit.ensures
