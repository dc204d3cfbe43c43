use Rattle.session.proofs.KnownLemmas.{valid_few}
use Rattle.session.proofs.laws.no_more_are_valid.Goals as goal

pub returns : goal.returns
returns c = valid_few
