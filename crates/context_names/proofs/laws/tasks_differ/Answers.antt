use Rattle.context_names.proofs.LawLemmas.{tasks_once}
use Rattle.context_names.proofs.laws.tasks_differ.Goals as goal

pub returns : goal.returns
returns c = tasks_once
