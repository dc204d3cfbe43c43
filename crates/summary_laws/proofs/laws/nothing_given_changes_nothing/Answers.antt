use Rattle.summary_laws.proofs.StandingLemmas.{nothing_given}
use Rattle.summary_laws.proofs.laws.nothing_given_changes_nothing.Goals as goal

pub returns : goal.returns
returns c = nothing_given
