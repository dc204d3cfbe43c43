use Rattle.ranking_picture.specs.Texts.{strip_start}
use Rattle.ranking_picture.proofs.texts.push_strip_start.Goals as goal

pub returns : goal.returns
unfolding strip_start
returns c = c.push_fixed.ensures
