use Rattle.std.proofs.Common.{◌≡◌, map, take}
use Rattle.trace_paths.proofs.OrderLemmas.{AreEntries, number_in}
use Rattle.trace_paths.proofs.name_order.names_in_order.Given as goal

abbrev pub invariant-names : goal.invariant-names
invariant-names l = AreEntries l.catalogue.names l.marked l.number l.named.items

abbrev pub invariant-named : goal.invariant-named
invariant-named l = l.numbers.items ≡ map number_in (take l.entry-index l.entry-items)
