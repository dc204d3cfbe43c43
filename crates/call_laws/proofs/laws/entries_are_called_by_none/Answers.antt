use Rattle.call_laws.proofs.TogetherLemmas.{none_calls}
use Rattle.call_laws.proofs.laws.entries_are_called_by_none.Goals as goal

pub returns : goal.returns
returns c = none_calls
