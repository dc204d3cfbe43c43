use Rattle.call_laws.proofs.OnceLemmas.{every_span}
use Rattle.call_laws.proofs.laws.every_span_is_called.Goals as goal

pub returns : goal.returns
returns c = every_span
