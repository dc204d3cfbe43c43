use Rattle.lanes_picture.specs.Texts.{loads_start}
use Rattle.lanes_picture.proofs.texts.push_loads_start.Goals as goal

pub returns : goal.returns
unfolding loads_start
returns c = c.push_fixed.ensures
