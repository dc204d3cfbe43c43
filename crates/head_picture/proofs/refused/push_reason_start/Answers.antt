use Rattle.head_picture.specs.Refusals.{reason_start}
use Rattle.head_picture.proofs.refused.push_reason_start.Goals as goal

pub returns : goal.returns
unfolding reason_start
returns c = c.push_pieces.ensures
