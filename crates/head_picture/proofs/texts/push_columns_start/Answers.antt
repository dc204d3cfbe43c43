use Rattle.head_picture.specs.Texts.{columns_start}
use Rattle.head_picture.proofs.texts.push_columns_start.Goals as goal

pub returns : goal.returns
unfolding columns_start
returns c = c.push_fixed.ensures
