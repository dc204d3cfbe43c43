use Rattle.refute_picture.specs.Texts.{row_start}
use Rattle.refute_picture.proofs.texts.push_row_start.Goals as goal

pub returns : goal.returns
unfolding row_start
returns c = c.push_fixed.ensures
