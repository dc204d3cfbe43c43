use Rattle.word_rows.proofs.MeetLemmas.{widened_meet}
use Rattle.word_rows.proofs.laws.widened_meet.Goals as goal

pub returns : goal.returns
returns c = widened_meet
