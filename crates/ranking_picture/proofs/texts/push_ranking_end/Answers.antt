use Rattle.ranking_picture.specs.Texts.{ranking_end}
use Rattle.ranking_picture.proofs.texts.push_ranking_end.Goals as goal

pub returns : goal.returns
unfolding ranking_end
returns c = c.push_fixed.ensures
