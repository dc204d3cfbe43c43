use Rattle.graph_picture.specs.Boxes.{shape_text}
use Rattle.graph_picture.proofs.boxes.push_shape.Goals as goal

pub returns : goal.returns
unfolding shape_text
returns c = rw (c.from-x.ensures, c.from-y.ensures, c.from.ensures) at c.push_pieces.ensures
