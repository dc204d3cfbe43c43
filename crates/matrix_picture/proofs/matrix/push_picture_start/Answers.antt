use Rattle.matrix_picture.specs.Matrices.{picture_start}
use Rattle.matrix_picture.proofs.matrix.push_picture_start.Goals as goal

pub returns : goal.returns
unfolding picture_start
returns c = rw (c.matrix_class-class.ensures, c.from-edge.ensures, c.cell_edge.ensures.value) at c.push_pieces.ensures
