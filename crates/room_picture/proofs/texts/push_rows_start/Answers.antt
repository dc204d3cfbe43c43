use Rattle.room_picture.specs.Texts.{rows_start}
use Rattle.room_picture.proofs.texts.push_rows_start.Goals as goal

pub returns : goal.returns
unfolding rows_start
returns c = c.push_fixed.ensures
