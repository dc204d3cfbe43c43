use Rattle.book_laws.proofs.LawLemmas.{newest_show}
use Rattle.book_laws.proofs.laws.newest_show.Goals as goal

pub returns : goal.returns
returns c = newest_show
