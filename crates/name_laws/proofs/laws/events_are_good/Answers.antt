use Rattle.name_laws.proofs.GoodNameLemmas.{events_good}
use Rattle.name_laws.proofs.laws.events_are_good.Goals as goal

pub returns : goal.returns
returns c = events_good
