use Rattle.graph_layers.specs.inner.Seats.{AreLow, AreSeats}
use Rattle.graph_layers.proofs.placing.place_boxes.Given as goal

-- the places so far
abbrev pub invariant-boxes : goal.invariant-boxes
invariant-boxes l = record {
  seats : AreSeats l.layers l.keys l.number l.places.items;
  low : AreLow l.places.items;
}
