use Rattle.lanes_picture.specs.Lanes.{axis_text}
use Rattle.lanes_picture.proofs.load_texts.push_axis.Goals as goal

pub returns : goal.returns
unfolding axis_text
returns c = c.push_pieces.ensures
