use Rattle.matrix_picture.specs.Matrices.{row_start}
use Rattle.matrix_picture.proofs.labels.push_row_start.Goals as goal

pub returns : goal.returns
unfolding row_start
returns c = rw c.from-edge.ensures at c.push_pieces.ensures
