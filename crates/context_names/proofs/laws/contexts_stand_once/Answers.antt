use Rattle.context_names.proofs.LawLemmas.{stand_once}
use Rattle.context_names.proofs.laws.contexts_stand_once.Goals as goal

pub returns : goal.returns
returns c = stand_once
