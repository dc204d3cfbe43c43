use Rattle.word_rows.proofs.HistoryLemmas.{zeros_stay}
use Rattle.word_rows.proofs.laws.zeros_stay.Goals as goal

pub returns : goal.returns
returns c = zeros_stay
