use Rattle.what_if.proofs.LosingLemmas.{loses_no_more}
use Rattle.what_if.proofs.laws.loses_no_more.Goals as goal

pub returns : goal.returns
returns c = loses_no_more
