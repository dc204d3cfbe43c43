use Rattle.head_picture.specs.Heads.{column_title}
use Rattle.head_picture.proofs.columns.push_column_title.Goals as goal

pub returns : goal.returns
unfolding column_title
returns c = c.push_pieces.ensures
