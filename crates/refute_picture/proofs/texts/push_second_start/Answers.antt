use Rattle.refute_picture.specs.Texts.{second_start}
use Rattle.refute_picture.proofs.texts.push_second_start.Goals as goal

pub returns : goal.returns
unfolding second_start
returns c = c.push_fixed.ensures
