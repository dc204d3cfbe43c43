use Rattle.pipeline_tests.proofs.SurvivorLemmas.{rows_clear_refuted}
use Rattle.pipeline_tests.proofs.laws.rows_clear_refuted.Goals as goal

pub returns : goal.returns
returns c = rows_clear_refuted
