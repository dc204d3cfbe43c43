use Rattle.std.proofs.Common.{rules}
use Rattle.refute_picture.proofs.OrderLemmas.{in_order}
use Rattle.refute_picture.proofs.ordering.order_rows.Goals as goal

pub returns-clause-sorted : goal.returns-clause-sorted
returns-clause-sorted c = in_order _ c.in_ok-sort_by_key.ensures.sorted (λ a r q k. search rules)
