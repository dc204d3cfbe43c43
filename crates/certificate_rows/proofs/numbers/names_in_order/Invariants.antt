use Rattle.certificate_rows.proofs.OrderLemmas.{AreEntries}
use Rattle.certificate_rows.proofs.numbers.names_in_order.Given as goal

abbrev pub invariant-names : goal.invariant-names
invariant-names l = AreEntries l.catalogue.names l.number l.named.items
