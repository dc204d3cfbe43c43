use Rattle.context_forks.proofs.PartnerLemmas.{AreLastTo}
use Rattle.context_forks.proofs.last.last_so_far.Given as goal

-- the last ones of the calls so far
abbrev pub invariant-loop-at : goal.invariant-loop-at
invariant-loop-at l = AreLastTo l.calls l.below l.at l.best l.last.items
