use Rattle.session.proofs.AddLemmas.{told}
use Rattle.session.proofs.laws.add_is_told.Goals as goal

pub returns : goal.returns
returns c = told
