use Rattle.head_picture.specs.Texts.{head_start}
use Rattle.head_picture.proofs.texts.push_head_start.Goals as goal

pub returns : goal.returns
unfolding head_start
returns c = c.push_fixed.ensures
