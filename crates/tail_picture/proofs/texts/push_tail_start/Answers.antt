use Rattle.tail_picture.specs.Texts.{tail_start}
use Rattle.tail_picture.proofs.texts.push_tail_start.Goals as goal

pub returns : goal.returns
unfolding tail_start
returns c = c.push_fixed.ensures
