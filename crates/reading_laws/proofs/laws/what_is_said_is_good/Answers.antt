use Rattle.reading_laws.proofs.GoodLemmas.{said_good}
use Rattle.reading_laws.proofs.laws.what_is_said_is_good.Goals as goal

pub returns : goal.returns
returns c = said_good
