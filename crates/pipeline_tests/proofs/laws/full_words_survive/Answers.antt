use Rattle.pipeline_tests.proofs.SurvivorLemmas.{full_words_survive}
use Rattle.pipeline_tests.proofs.laws.full_words_survive.Goals as goal

pub returns : goal.returns
returns c = full_words_survive
