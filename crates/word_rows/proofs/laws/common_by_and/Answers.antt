use Rattle.word_rows.proofs.MeetLemmas.{common_by_and}
use Rattle.word_rows.proofs.laws.common_by_and.Goals as goal

pub returns : goal.returns
returns c = common_by_and
