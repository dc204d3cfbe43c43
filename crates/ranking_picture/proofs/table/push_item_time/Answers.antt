use Rattle.ranking_picture.specs.Tables.{item_time}
use Rattle.ranking_picture.proofs.table.push_item_time.Goals as goal

pub returns : goal.returns
unfolding item_time
returns c = c.push_pieces.ensures
