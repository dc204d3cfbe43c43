use Rattle.word_rows.proofs.HistoryLemmas.{done_stays}
use Rattle.word_rows.proofs.laws.done_stays.Goals as goal

pub returns : goal.returns
returns c = done_stays
