use Rattle.matrix_picture.specs.Texts.{matrix_end}
use Rattle.matrix_picture.proofs.texts.push_matrix_end.Goals as goal

pub returns : goal.returns
unfolding matrix_end
returns c = c.push_fixed.ensures
