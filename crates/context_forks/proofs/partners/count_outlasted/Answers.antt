use Rattle.context_forks.proofs.PartnerLemmas.{halves_meet}
use Rattle.context_forks.proofs.partners.count_outlasted.Goals as goal

pub returns-clause-first : goal.returns-clause-first
returns-clause-first c = halves_meet c.args.calls.now c.args.grace c.args.earlier.now c.args.call c.halves.low c.halves.high c.halves-test.false c.halves.invariant
