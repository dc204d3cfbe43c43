use Rattle.graph_picture.proofs.graph.push_layout_start.Goals as goal

pub returns : goal.returns
returns c = rw c.arrow_count.ensures at c.push_picture_start.ensures
