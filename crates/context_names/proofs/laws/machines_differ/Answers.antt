use Rattle.context_names.proofs.LawLemmas.{machines_once}
use Rattle.context_names.proofs.laws.machines_differ.Goals as goal

pub returns : goal.returns
returns c = machines_once
