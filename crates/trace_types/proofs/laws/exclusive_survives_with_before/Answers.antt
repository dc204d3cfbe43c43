use Rattle.trace_types.proofs.OrderLemmas.{before_keeps_exclusive}
use Rattle.trace_types.proofs.laws.exclusive_survives_with_before.Goals as goal

pub returns : goal.returns
returns g c = before_keeps_exclusive
