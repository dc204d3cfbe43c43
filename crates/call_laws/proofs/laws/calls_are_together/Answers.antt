use Rattle.call_laws.proofs.TogetherLemmas.{together}
use Rattle.call_laws.proofs.laws.calls_are_together.Goals as goal

pub returns : goal.returns
returns c = together
