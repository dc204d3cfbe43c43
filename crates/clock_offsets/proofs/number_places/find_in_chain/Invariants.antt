use Rattle.clock_offsets.proofs.NumberChainLemmas.{IsOnWay}
use Rattle.clock_offsets.proofs.number_places.find_in_chain.Given as goal

abbrev pub invariant-older : goal.invariant-older
invariant-older l = IsOnWay l.chains l.entries l.mixed l.group l.number l.next

abbrev pub decreases-older : goal.decreases-older
decreases-older l = l.next
