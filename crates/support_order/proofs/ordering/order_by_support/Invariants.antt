use Rattle.std.proofs.Common.{◌≡◌, map, take}
use Rattle.support_order.proofs.OrderLemmas.{AreKeys, support_of}
use Rattle.support_order.proofs.ordering.order_by_support.Given as goal

abbrev pub invariant-supports : goal.invariant-supports
invariant-supports l = AreKeys l.supports l.place l.keys.items

abbrev pub invariant-keys : goal.invariant-keys
invariant-keys l = l.order.items ≡ map support_of (take l.key-index l.key-items)
