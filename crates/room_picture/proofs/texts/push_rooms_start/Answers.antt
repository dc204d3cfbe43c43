use Rattle.room_picture.specs.Texts.{rooms_start}
use Rattle.room_picture.proofs.texts.push_rooms_start.Goals as goal

pub returns : goal.returns
unfolding rooms_start
returns c = c.push_fixed.ensures
