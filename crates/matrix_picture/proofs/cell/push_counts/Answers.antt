use Rattle.matrix_picture.specs.Matrices.{counts_text}
use Rattle.matrix_picture.proofs.cell.push_counts.Goals as goal

pub returns : goal.returns
unfolding counts_text
returns c = rw (c.get-before.ensures.value, c.get-both.ensures.value, c.get-exclusive.ensures.value) at c.push_pieces.ensures
