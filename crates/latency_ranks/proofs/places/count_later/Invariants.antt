use Rattle.std.proofs.Common.{◌-◌}
use Rattle.latency_ranks.proofs.PlaceLemmas.{IsBetween}
use Rattle.latency_ranks.proofs.places.count_later.Given as goal

abbrev pub invariant-halving : goal.invariant-halving
invariant-halving l = IsBetween l.sorted l.place l.low l.high

abbrev pub decreases-halving : goal.decreases-halving
decreases-halving l = l.high - l.low
