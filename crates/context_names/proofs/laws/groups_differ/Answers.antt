use Rattle.context_names.proofs.LawLemmas.{groups_once}
use Rattle.context_names.proofs.laws.groups_differ.Goals as goal

pub returns : goal.returns
returns c = groups_once
