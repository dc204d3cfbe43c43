use Rattle.clock_offsets.proofs.ChainLemmas.{IsOnWay}
use Rattle.clock_offsets.proofs.message_places.find_in_chain.Given as goal

abbrev pub invariant-older : goal.invariant-older
invariant-older l = IsOnWay l.chains l.entries l.digest l.message l.next

abbrev pub decreases-older : goal.decreases-older
decreases-older l = l.next
