use Rattle.matrix_picture.specs.Texts.{matrix_start}
use Rattle.matrix_picture.proofs.texts.push_matrix_start.Goals as goal

pub returns : goal.returns
unfolding matrix_start
returns c = c.push_fixed.ensures
