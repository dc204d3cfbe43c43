use Rattle.lanes_picture.specs.Lanes.{lanes_start}
use Rattle.lanes_picture.proofs.load_texts.push_lanes_start.Goals as goal

pub returns : goal.returns
unfolding lanes_start
returns c = c.push_pieces.ensures
