use Rattle.lanes_picture.specs.Lanes.{lane_name}
use Rattle.lanes_picture.proofs.load_texts.push_lane_name.Goals as goal

pub returns : goal.returns
unfolding lane_name
returns c = rw c.as_str.ensures at c.push_pieces.ensures
