use Rattle.live_book.proofs.LawLemmas.{later_finds_more}
use Rattle.live_book.proofs.laws.later_finds_more.Goals as goal

pub returns : goal.returns
returns c = later_finds_more
