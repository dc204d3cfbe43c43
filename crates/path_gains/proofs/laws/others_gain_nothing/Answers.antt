use Rattle.path_gains.proofs.LawLemmas.{others_gain_nothing}
use Rattle.path_gains.proofs.laws.others_gain_nothing.Goals as goal

pub returns : goal.returns
returns c = others_gain_nothing
