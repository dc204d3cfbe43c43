use Rattle.reading_laws.proofs.WholeLemmas.{without_good}
use Rattle.reading_laws.proofs.laws.without_waits_is_good.Goals as goal

pub returns : goal.returns
returns c = without_good
