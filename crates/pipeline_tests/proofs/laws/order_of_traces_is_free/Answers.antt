use Rattle.pipeline_tests.proofs.SurvivorLemmas.{order_of_traces_is_free}
use Rattle.pipeline_tests.proofs.laws.order_of_traces_is_free.Goals as goal

pub returns : goal.returns
returns c = order_of_traces_is_free
