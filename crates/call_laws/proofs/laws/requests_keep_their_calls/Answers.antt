use Rattle.call_laws.proofs.OrderLemmas.{keep_calls}
use Rattle.call_laws.proofs.laws.requests_keep_their_calls.Goals as goal

pub returns : goal.returns
returns c = keep_calls
