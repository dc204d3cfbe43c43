use Rattle.model_meet.proofs.CountLemmas.{no_line_is_left_out}
use Rattle.model_meet.proofs.laws.no_line_is_left_out.Goals as goal

pub returns : goal.returns
returns c = no_line_is_left_out
