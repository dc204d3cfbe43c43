use Rattle.trace_types.proofs.OrderLemmas.{both_orders}
use Rattle.trace_types.proofs.laws.exclusive_is_refuted_by_both_orders.Goals as goal

pub returns : goal.returns
returns g c = both_orders
