use Rattle.session.proofs.SplitLemmas.{sheets_few}
use Rattle.session.proofs.laws.no_more_are_sheeted.Goals as goal

pub returns : goal.returns
returns c = sheets_few
