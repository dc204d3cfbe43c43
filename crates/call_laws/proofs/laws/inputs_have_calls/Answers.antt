use Rattle.call_laws.proofs.RootLemmas.{have_calls}
use Rattle.call_laws.proofs.laws.inputs_have_calls.Goals as goal

pub returns : goal.returns
returns c = have_calls
