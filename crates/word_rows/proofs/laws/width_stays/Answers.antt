use Rattle.word_rows.proofs.HistoryLemmas.{width_stays}
use Rattle.word_rows.proofs.laws.width_stays.Goals as goal

pub returns : goal.returns
returns c = width_stays
