use Rattle.std.proofs.Common.{get_or}
use Rattle.graph_layers.specs.inner.Chains.{is_above}
use Rattle.graph_layers.specs.inner.Depths.{AreDepths}
use Rattle.graph_layers.proofs.layering.next_layers.Given as goal

-- the layers so far
abbrev pub invariant-boxes : goal.invariant-boxes
invariant-boxes l = AreDepths l.count l.low (is_above l.count l.matrix) (λ i. get_or l.layers i 0) l.next.items
