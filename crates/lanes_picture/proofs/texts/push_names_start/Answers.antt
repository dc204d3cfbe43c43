use Rattle.lanes_picture.specs.Texts.{names_start}
use Rattle.lanes_picture.proofs.texts.push_names_start.Goals as goal

pub returns : goal.returns
unfolding names_start
returns c = c.push_fixed.ensures
