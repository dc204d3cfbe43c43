use Rattle.std.proofs.Common.{◌≡◌, ◌≤◌, ◌*◌, length}
use Rattle.graph_layers.specs.inner.Seats.{rows_above}
use Rattle.graph_layers.proofs.seating.rows_above.Given as goal

-- the rows of the layers so far, at most 17 each
abbrev pub invariant-layers : goal.invariant-layers
invariant-layers l = record {
  value : l.rows ≡ rows_above (length l.layers) l.layers l.above;
  small : l.rows ≤ 17 * l.above;
}
