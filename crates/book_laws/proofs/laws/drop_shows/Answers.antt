use Rattle.book_laws.proofs.LawLemmas.{drop_shows}
use Rattle.book_laws.proofs.laws.drop_shows.Goals as goal

pub returns : goal.returns
returns c = drop_shows
