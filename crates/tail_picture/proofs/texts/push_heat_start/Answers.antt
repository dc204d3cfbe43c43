use Rattle.tail_picture.specs.Texts.{heat_start}
use Rattle.tail_picture.proofs.texts.push_heat_start.Goals as goal

pub returns : goal.returns
unfolding heat_start
returns c = c.push_fixed.ensures
