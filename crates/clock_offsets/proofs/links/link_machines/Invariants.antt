use Rattle.std.proofs.Common.{map}
use Rattle.std.specs.Map.Iter.{deref_pair}
use Rattle.clock_offsets.proofs.LinkLemmas.{AreLinksTo}
use Rattle.clock_offsets.proofs.links.link_machines.Given as goal

abbrev pub invariant-loop-way : goal.invariant-loop-way
invariant-loop-way l = AreLinksTo l.trace.trace.events l.numbers (map deref_pair l.yielded) l.least l.links.items
