use Rattle.name_laws.proofs.GoodNameLemmas.{tasks_good}
use Rattle.name_laws.proofs.laws.tasks_are_good.Goals as goal

pub returns : goal.returns
returns c = tasks_good
