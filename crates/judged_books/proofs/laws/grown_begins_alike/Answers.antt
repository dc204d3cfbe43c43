use Rattle.judged_books.proofs.GrownLemmas.{grown_begins}
use Rattle.judged_books.proofs.laws.grown_begins_alike.Goals as goal

pub returns : goal.returns
returns c = grown_begins
