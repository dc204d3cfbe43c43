use Rattle.name_laws.proofs.GoodNameLemmas.{machines_good}
use Rattle.name_laws.proofs.laws.machines_are_good.Goals as goal

pub returns : goal.returns
returns c = machines_good
