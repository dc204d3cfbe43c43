use Rattle.certificate_rows.proofs.OrderLemmas.{AreEntries}
use Rattle.certificate_rows.proofs.numbers.tasks_in_order.Given as goal

abbrev pub invariant-tasks : goal.invariant-tasks
invariant-tasks l = AreEntries l.catalogue.tasks l.number l.named.items
