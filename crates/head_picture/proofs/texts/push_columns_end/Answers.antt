use Rattle.head_picture.specs.Texts.{columns_end}
use Rattle.head_picture.proofs.texts.push_columns_end.Goals as goal

pub returns : goal.returns
unfolding columns_end
returns c = c.push_fixed.ensures
