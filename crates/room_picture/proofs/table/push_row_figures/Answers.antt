use Rattle.room_picture.specs.Rooms.{row_figures}
use Rattle.room_picture.proofs.table.push_row_figures.Goals as goal

pub returns : goal.returns
unfolding row_figures
returns c = rw (c.get-tenth.ensures.value, c.get-median.ensures.value, c.get-zero.ensures.value, c.get-count.ensures.value) at c.push_pieces.ensures
