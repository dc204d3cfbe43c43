use Rattle.std.proofs.Common.{◌≡◌, eqb, get_or}
use Rattle.graph_layers.specs.inner.Depths.{tally}
use Rattle.graph_layers.proofs.seating.size_of.Given as goal

-- those so far that are in the layer
abbrev pub invariant-boxes : goal.invariant-boxes
invariant-boxes l = l.size ≡ tally (λ a. eqb (get_or l.layers a 0) l.layer) l.one
