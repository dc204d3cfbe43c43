use Rattle.word_rows.proofs.MeetLemmas.{below_wider}
use Rattle.word_rows.proofs.laws.below_wider.Goals as goal

pub returns : goal.returns
returns c = below_wider
