use Rattle.book_laws.proofs.PastLemmas.{one_remains}
use Rattle.book_laws.proofs.laws.one_list_remains.Goals as goal

pub returns : goal.returns
returns c = one_remains
