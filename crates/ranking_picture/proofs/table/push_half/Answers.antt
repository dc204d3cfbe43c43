use Rattle.ranking_picture.specs.Tables.{half_mark}
use Rattle.ranking_picture.proofs.table.push_half.Goals as goal

pub returns : goal.returns
unfolding half_mark
returns c = c.push_pieces.ensures
