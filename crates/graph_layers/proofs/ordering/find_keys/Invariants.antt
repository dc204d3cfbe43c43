use Rattle.std.proofs.Common.{◌≡◌, length}
use Rattle.graph_layers.proofs.ordering.find_keys.Given as goal

abbrev pub invariant-sweeps : goal.invariant-sweeps
invariant-sweeps l = length l.keys.items ≡ length l.layers
