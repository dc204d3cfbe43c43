use Rattle.std.proofs.Common.{◌≡◌, ◌++◌, [], map}
use Rattle.context_forks.specs.Forks.{context_pair}
use Rattle.context_forks.specs.Partners.{pairs_after}
use Rattle.context_forks.proofs.PairLemmas.{pairs_from}
use Rattle.context_forks.proofs.links.link_calls.Given as goal

-- the links so far, and those of the rest
abbrev pub invariant-loop-index : goal.invariant-loop-index
invariant-loop-index l = l.links.items ++ pairs_from l.calls l.grace l.numbers l.below l.index ≡ l.initial.links.items ++ map (context_pair l.numbers) (pairs_after l.calls l.grace [] l.below)
