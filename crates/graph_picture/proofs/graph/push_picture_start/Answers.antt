use Rattle.graph_picture.specs.Graphs.{picture_start}
use Rattle.graph_picture.proofs.graph.push_picture_start.Goals as goal

pub returns : goal.returns
unfolding picture_start
returns c = rw (c.graph_class-class.ensures, c.from.ensures, c.from-2.ensures) at c.push_pieces.ensures
