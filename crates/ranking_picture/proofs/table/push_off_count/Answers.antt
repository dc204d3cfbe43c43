use Rattle.ranking_picture.specs.Tables.{off_count}
use Rattle.ranking_picture.proofs.table.push_off_count.Goals as goal

pub returns : goal.returns
unfolding off_count
returns c = c.push_pieces.ensures
