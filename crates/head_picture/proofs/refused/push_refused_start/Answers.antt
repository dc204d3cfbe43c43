use Rattle.head_picture.specs.Refusals.{refused_start}
use Rattle.head_picture.proofs.refused.push_refused_start.Goals as goal

pub returns : goal.returns
unfolding refused_start
returns c = c.push_pieces.ensures
