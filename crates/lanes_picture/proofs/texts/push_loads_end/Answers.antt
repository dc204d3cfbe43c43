use Rattle.lanes_picture.specs.Texts.{loads_end}
use Rattle.lanes_picture.proofs.texts.push_loads_end.Goals as goal

pub returns : goal.returns
unfolding loads_end
returns c = c.push_fixed.ensures
