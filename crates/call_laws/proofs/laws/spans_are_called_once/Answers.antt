use Rattle.call_laws.proofs.OnceLemmas.{spans_once}
use Rattle.call_laws.proofs.laws.spans_are_called_once.Goals as goal

pub returns : goal.returns
returns c = spans_once
