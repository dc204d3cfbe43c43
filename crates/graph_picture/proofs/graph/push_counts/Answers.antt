use Rattle.graph_picture.specs.Graphs.{counts_text}
use Rattle.graph_picture.proofs.graph.push_counts.Goals as goal

pub returns : goal.returns
unfolding counts_text
returns c = rw c.from.ensures at c.push_pieces.ensures
