use Rattle.pipeline_tests.proofs.SurvivorLemmas.{met_rows_survive}
use Rattle.pipeline_tests.proofs.laws.met_rows_survive.Goals as goal

pub returns : goal.returns
returns c = met_rows_survive
