use Rattle.graph_picture.proofs.graph.push_layout_shapes.Goals as goal

pub returns : goal.returns
returns c = rw (c.deref.ensures.value, c.deref-2.ensures.value) at c.push_shapes.ensures
