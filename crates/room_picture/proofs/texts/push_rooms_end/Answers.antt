use Rattle.room_picture.specs.Texts.{rooms_end}
use Rattle.room_picture.proofs.texts.push_rooms_end.Goals as goal

pub returns : goal.returns
unfolding rooms_end
returns c = c.push_fixed.ensures
