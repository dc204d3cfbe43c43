use Rattle.clock_offsets.proofs.NumberChainLemmas.{IsOnFewWay}
use Rattle.clock_offsets.proofs.number_places.find_in_few.Given as goal

abbrev pub invariant-older : goal.invariant-older
invariant-older l = IsOnFewWay l.entries l.group l.number l.next

abbrev pub decreases-older : goal.decreases-older
decreases-older l = l.next
