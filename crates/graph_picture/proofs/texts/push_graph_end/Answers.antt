use Rattle.graph_picture.specs.Texts.{graph_end}
use Rattle.graph_picture.proofs.texts.push_graph_end.Goals as goal

pub returns : goal.returns
unfolding graph_end
returns c = c.push_fixed.ensures
