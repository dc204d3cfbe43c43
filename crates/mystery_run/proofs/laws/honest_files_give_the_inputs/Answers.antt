use Rattle.mystery_run.proofs.HonestLemmas.{inputs}
use Rattle.mystery_run.proofs.laws.honest_files_give_the_inputs.Goals as goal

pub returns : goal.returns
returns c = inputs c.honest_files_give_contents.ensures
