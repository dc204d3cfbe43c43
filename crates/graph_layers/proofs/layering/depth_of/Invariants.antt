use Rattle.std.proofs.Common.{◌≡◌, get_or}
use Rattle.graph_layers.specs.inner.Chains.{is_above}
use Rattle.graph_layers.specs.inner.Depths.{depth_over}
use Rattle.graph_layers.proofs.layering.depth_of.Given as goal

-- the depth over the boxes so far
abbrev pub invariant-boxes : goal.invariant-boxes
invariant-boxes l = l.depth ≡ depth_over (λ a. is_above l.count l.matrix a l.low) (λ i. get_or l.layers i 0) l.high
