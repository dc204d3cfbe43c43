use Rattle.path_gains.proofs.LawLemmas.{gains_are_bounded}
use Rattle.path_gains.proofs.laws.gains_are_bounded.Goals as goal

pub returns : goal.returns
returns c = gains_are_bounded
