use Rattle.matrix_picture.specs.Matrices.{square_text}
use Rattle.matrix_picture.proofs.cell.push_square.Goals as goal

pub returns : goal.returns
unfolding square_text
returns c =
    rw (c.class_of-class.ensures, c.mark_place-x.ensures.value, c.mark_place-y.ensures.value, c.get.ensures.value, c.get-2.ensures.value, c.from.ensures, c.from-2.ensures, c.edge_of-edge.ensures.value)
    at c.push_pieces.ensures
