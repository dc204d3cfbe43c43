use Rattle.room_picture.specs.Rooms.{count_text}
use Rattle.room_picture.proofs.table.push_count.Goals as goal

pub returns : goal.returns
unfolding count_text
returns c = c.push_pieces.ensures
