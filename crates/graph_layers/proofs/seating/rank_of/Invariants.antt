use Rattle.std.proofs.Common.{◌≡◌}
use Rattle.graph_layers.specs.inner.Depths.{tally}
use Rattle.graph_layers.specs.inner.Seats.{is_before}
use Rattle.graph_layers.proofs.seating.rank_of.Given as goal

-- those so far that stand before the box
abbrev pub invariant-boxes : goal.invariant-boxes
invariant-boxes l = l.rank ≡ tally (λ a. is_before l.layers l.keys a l.number) l.one
