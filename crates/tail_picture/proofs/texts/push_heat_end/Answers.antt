use Rattle.tail_picture.specs.Texts.{heat_end}
use Rattle.tail_picture.proofs.texts.push_heat_end.Goals as goal

pub returns : goal.returns
unfolding heat_end
returns c = c.push_fixed.ensures
