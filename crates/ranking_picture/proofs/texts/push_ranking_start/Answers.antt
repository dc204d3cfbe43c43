use Rattle.ranking_picture.specs.Texts.{ranking_start}
use Rattle.ranking_picture.proofs.texts.push_ranking_start.Goals as goal

pub returns : goal.returns
unfolding ranking_start
returns c = c.push_fixed.ensures
