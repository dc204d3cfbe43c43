use Rattle.matrix_picture.specs.Matrices.{lower_label}
use Rattle.matrix_picture.proofs.labels.push_lower_label.Goals as goal

pub returns : goal.returns
unfolding lower_label
returns c = rw c.from-edge.ensures at c.push_pieces.ensures
