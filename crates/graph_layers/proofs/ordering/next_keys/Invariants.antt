use Rattle.std.proofs.Common.{◌≡◌, length}
use Rattle.graph_layers.proofs.ordering.next_keys.Given as goal

abbrev pub invariant-boxes : goal.invariant-boxes
invariant-boxes l = length l.keys.items ≡ l.number
