use Rattle.call_laws.proofs.ContextLemmas.{one_context_above}
use Rattle.call_laws.proofs.laws.groups_have_one_above.Goals as goal

pub returns : goal.returns
returns c = one_context_above
