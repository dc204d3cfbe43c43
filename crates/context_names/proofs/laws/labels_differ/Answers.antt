use Rattle.context_names.proofs.LawLemmas.{labels_once}
use Rattle.context_names.proofs.laws.labels_differ.Goals as goal

pub returns : goal.returns
returns c = labels_once
