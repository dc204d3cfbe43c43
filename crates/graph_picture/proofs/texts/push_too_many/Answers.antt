use Rattle.graph_picture.specs.Texts.{too_many}
use Rattle.graph_picture.proofs.texts.push_too_many.Goals as goal

pub returns : goal.returns
unfolding too_many
returns c = c.push_fixed.ensures
