use Rattle.mystery_run.proofs.StatusLemmas.{at_most_6}
use Rattle.mystery_run.proofs.laws.statuses_are_at_most_6.Goals as goal

pub returns : goal.returns
returns c = at_most_6
