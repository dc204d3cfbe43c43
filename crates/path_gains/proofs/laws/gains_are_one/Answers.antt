use Rattle.path_gains.proofs.LawLemmas.{gains_are_one}
use Rattle.path_gains.proofs.laws.gains_are_one.Goals as goal

pub returns : goal.returns
returns c = gains_are_one
