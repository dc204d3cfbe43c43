use Rattle.std.proofs.Common.{◌≡◌}
use Rattle.graph_layers.specs.inner.Seats.{widest_of}
use Rattle.graph_layers.proofs.placing.widest_of.Given as goal

-- the widest so far
abbrev pub invariant-boxes : goal.invariant-boxes
invariant-boxes l = l.widest ≡ widest_of l.layers l.one
