use Rattle.std.proofs.Common.{◌-◌}
use Rattle.context_forks.proofs.PartnerLemmas.{AreHalves}
use Rattle.context_forks.proofs.partners.count_outlasted.Given as goal

-- the first ones are outlasted, and the last ones are not
abbrev pub invariant-halves : goal.invariant-halves
invariant-halves l = AreHalves l.calls l.grace l.earlier l.call l.low l.high

abbrev pub decreases-halves : goal.decreases-halves
decreases-halves l = l.high - l.low
