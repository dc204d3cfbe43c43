use Rattle.tail_picture.specs.Texts.{tail_end}
use Rattle.tail_picture.proofs.texts.push_tail_end.Goals as goal

pub returns : goal.returns
unfolding tail_end
returns c = c.push_fixed.ensures
