use Rattle.ranking_picture.specs.Tables.{rest_name}
use Rattle.ranking_picture.proofs.table.push_rest_name.Goals as goal

pub returns : goal.returns
unfolding rest_name
returns c = c.push_pieces.ensures
