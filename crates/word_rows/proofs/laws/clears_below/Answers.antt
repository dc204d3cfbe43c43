use Rattle.word_rows.proofs.MeetLemmas.{clears_below}
use Rattle.word_rows.proofs.laws.clears_below.Goals as goal

pub returns : goal.returns
returns c = clears_below
