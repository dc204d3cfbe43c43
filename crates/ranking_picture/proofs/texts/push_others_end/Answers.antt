use Rattle.ranking_picture.specs.Texts.{others_end}
use Rattle.ranking_picture.proofs.texts.push_others_end.Goals as goal

pub returns : goal.returns
unfolding others_end
returns c = c.push_fixed.ensures
