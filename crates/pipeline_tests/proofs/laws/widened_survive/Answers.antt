use Rattle.pipeline_tests.proofs.SurvivorLemmas.{widened_survive}
use Rattle.pipeline_tests.proofs.laws.widened_survive.Goals as goal

pub returns : goal.returns
returns c = widened_survive c.places_fit.ensures
