use Rattle.tail_picture.specs.Tails.{row_figures}
use Rattle.tail_picture.proofs.table.push_row_figures.Goals as goal

pub returns : goal.returns
unfolding row_figures
returns c = rw (c.sign_of-sign.ensures, c.apart-difference.ensures.value, c.get-slow.ensures.value, c.get-rest.ensures.value) at c.push_pieces.ensures
