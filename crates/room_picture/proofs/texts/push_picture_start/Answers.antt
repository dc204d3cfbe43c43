use Rattle.room_picture.specs.Texts.{picture_start}
use Rattle.room_picture.proofs.texts.push_picture_start.Goals as goal

pub returns : goal.returns
unfolding picture_start
returns c = c.push_fixed.ensures
