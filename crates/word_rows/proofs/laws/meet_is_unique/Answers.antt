use Rattle.word_rows.proofs.MeetLemmas.{meet_is_unique}
use Rattle.word_rows.proofs.laws.meet_is_unique.Goals as goal

pub returns : goal.returns
returns c = meet_is_unique
