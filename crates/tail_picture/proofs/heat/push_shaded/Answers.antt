use Rattle.tail_picture.specs.Heats.{shaded_cell}
use Rattle.tail_picture.proofs.heat.push_shaded.Goals as goal

pub returns : goal.returns
unfolding shaded_cell
returns c = rw c.from.ensures at c.push_pieces.ensures
