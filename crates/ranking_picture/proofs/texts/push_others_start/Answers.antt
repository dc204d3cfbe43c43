use Rattle.ranking_picture.specs.Texts.{others_start}
use Rattle.ranking_picture.proofs.texts.push_others_start.Goals as goal

pub returns : goal.returns
unfolding others_start
returns c = c.push_fixed.ensures
