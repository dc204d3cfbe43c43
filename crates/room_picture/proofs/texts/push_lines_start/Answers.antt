use Rattle.room_picture.specs.Texts.{lines_start}
use Rattle.room_picture.proofs.texts.push_lines_start.Goals as goal

pub returns : goal.returns
unfolding lines_start
returns c = c.push_fixed.ensures
