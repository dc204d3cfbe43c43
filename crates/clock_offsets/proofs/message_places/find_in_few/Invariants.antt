use Rattle.clock_offsets.proofs.ChainLemmas.{IsOnFewWay}
use Rattle.clock_offsets.proofs.message_places.find_in_few.Given as goal

abbrev pub invariant-older : goal.invariant-older
invariant-older l = IsOnFewWay l.entries l.message l.next

abbrev pub decreases-older : goal.decreases-older
decreases-older l = l.next
