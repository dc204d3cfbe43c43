use Rattle.ranking_picture.specs.Texts.{between_name}
use Rattle.ranking_picture.proofs.texts.push_between_name.Goals as goal

pub returns : goal.returns
unfolding between_name
returns c = c.push_fixed.ensures
