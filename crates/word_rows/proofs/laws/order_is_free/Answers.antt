use Rattle.word_rows.proofs.MeetLemmas.{order_is_free}
use Rattle.word_rows.proofs.laws.order_is_free.Goals as goal

pub returns : goal.returns
returns c = order_is_free
