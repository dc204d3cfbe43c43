use Rattle.session.proofs.KnownLemmas.{names_grow}
use Rattle.session.proofs.laws.names_grow.Goals as goal

pub returns : goal.returns
returns c = names_grow
