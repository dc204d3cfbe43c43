use Rattle.std.proofs.Common.{rules}
use Rattle.alike_groups.proofs.OrderLemmas.{by_key}
use Rattle.alike_groups.proofs.greatest.order_groups.Goals as goal

pub returns-clause-order : goal.returns-clause-order
returns-clause-order c = by_key _ c.sort_unstable_by_key.ensures.sorted (λ a r q k. search rules)
