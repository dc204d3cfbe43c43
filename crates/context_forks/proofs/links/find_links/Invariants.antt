use Rattle.std.proofs.Common.{◌≡◌, map, take}
use Rattle.context_forks.specs.Forks.{context_pair}
use Rattle.context_forks.specs.Partners.{pairs_of}
use Rattle.context_forks.proofs.links.find_links.Given as goal

-- the links of the callers so far
abbrev pub invariant-loop-at : goal.invariant-loop-at
invariant-loop-at l = l.links.items ≡ map (context_pair l.numbers) (pairs_of l.calls l.grace (take l.at l.below))
