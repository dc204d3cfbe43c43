use Rattle.room_picture.specs.Rooms.{tight_count}
use Rattle.room_picture.proofs.table.push_tight_count.Goals as goal

pub returns : goal.returns
unfolding tight_count
returns c = c.push_pieces.ensures
