use Rattle.refute_picture.specs.Texts.{table_start}
use Rattle.refute_picture.proofs.texts.push_table_start.Goals as goal

pub returns : goal.returns
unfolding table_start
returns c = c.push_fixed.ensures
