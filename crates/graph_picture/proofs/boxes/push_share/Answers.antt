use Rattle.graph_picture.specs.Boxes.{share_text}
use Rattle.graph_picture.proofs.boxes.push_share.Goals as goal

pub returns : goal.returns
unfolding share_text
returns c = rw (c.of-share.ensures, c.whole_of-all.ensures, c.critical_of.ensures.value, c.box_time-time.ensures.value) at c.push_pieces.ensures
