use Rattle.graph_picture.specs.Texts.{markers}
use Rattle.graph_picture.proofs.texts.push_markers.Goals as goal

pub returns : goal.returns
unfolding markers
returns c = c.push_fixed.ensures
