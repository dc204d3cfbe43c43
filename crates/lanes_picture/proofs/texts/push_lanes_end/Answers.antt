use Rattle.lanes_picture.specs.Texts.{lanes_end}
use Rattle.lanes_picture.proofs.texts.push_lanes_end.Goals as goal

pub returns : goal.returns
unfolding lanes_end
returns c = c.push_fixed.ensures
