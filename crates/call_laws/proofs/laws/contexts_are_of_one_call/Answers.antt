use Rattle.call_laws.proofs.ContextLemmas.{one_call}
use Rattle.call_laws.proofs.laws.contexts_are_of_one_call.Goals as goal

pub returns : goal.returns
returns c = one_call
