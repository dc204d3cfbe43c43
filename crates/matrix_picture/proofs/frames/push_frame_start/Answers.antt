use Rattle.matrix_picture.specs.Frames.{frame_start}
use Rattle.matrix_picture.proofs.frames.push_frame_start.Goals as goal

pub returns : goal.returns
unfolding frame_start
returns c = rw c.from-cell.ensures at c.push_pieces.ensures
