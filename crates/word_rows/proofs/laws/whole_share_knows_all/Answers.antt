use Rattle.word_rows.proofs.CloseLemmas.{whole_share_knows_all}
use Rattle.word_rows.proofs.laws.whole_share_knows_all.Goals as goal

pub returns : goal.returns
returns c = whole_share_knows_all
