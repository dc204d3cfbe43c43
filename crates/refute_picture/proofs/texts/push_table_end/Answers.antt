use Rattle.refute_picture.specs.Texts.{table_end}
use Rattle.refute_picture.proofs.texts.push_table_end.Goals as goal

pub returns : goal.returns
unfolding table_end
returns c = c.push_fixed.ensures
