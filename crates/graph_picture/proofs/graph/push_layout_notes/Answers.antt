use Rattle.graph_picture.proofs.graph.push_layout_notes.Goals as goal

pub returns : goal.returns
returns c = rw (c.box_count.ensures, c.arrow_count.ensures, c.joined_count.ensures) at c.push_notes.ensures
