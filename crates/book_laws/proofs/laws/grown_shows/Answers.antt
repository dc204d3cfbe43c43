use Rattle.book_laws.proofs.GrownLemmas.{grown}
use Rattle.book_laws.proofs.laws.grown_shows.Goals as goal

pub returns : goal.returns
returns c = grown
