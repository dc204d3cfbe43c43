use Rattle.graph_picture.specs.Texts.{graph_start}
use Rattle.graph_picture.proofs.texts.push_graph_start.Goals as goal

pub returns : goal.returns
unfolding graph_start
returns c = c.push_fixed.ensures
