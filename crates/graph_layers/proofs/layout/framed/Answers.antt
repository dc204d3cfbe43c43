use Rattle.graph_layers.proofs.SeatLemmas.{framed_places}
use Rattle.graph_layers.proofs.layout.framed.Goals as goal

pub returns-clause-places : goal.returns-clause-places
returns-clause-places c = framed_places c.args.layers.items _ c.args.places.items _ _ _ c.requires.placed c.deref.ensures.value c.deref-2.ensures.value c.widest_of-width.ensures.value c.height_of-height.ensures
