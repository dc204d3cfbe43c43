use Rattle.book_laws.proofs.PastLemmas.{kept_remain}
use Rattle.book_laws.proofs.laws.kept_traces_remain.Goals as goal

pub returns : goal.returns
returns c = kept_remain
