use Rattle.std.proofs.Common.{◌≡◌, ℕ, get_or, arith, subst}
use Rattle.graph_layers.specs.inner.Chains.{is_above}
use Rattle.graph_layers.specs.inner.Depths.{AreDepths}
use Rattle.graph_layers.proofs.LayerLemmas.{depths_more, depths_none}
use Rattle.graph_layers.proofs.layering.next_layers.Goals as goal

pub boxes-init : goal.boxes-init
boxes-init c = depths_none c.args.count (is_above c.args.count c.args.matrix.now) (λ i. get_or c.args.layers.now i 0) c.in_ok-next.next.items c.in_ok-next.ensures.items

pub boxes-preserved : goal.boxes-preserved
boxes-preserved c = depths_more c.args.count c.boxes.low (is_above c.args.count c.args.matrix.now) (λ i. get_or c.args.layers.now i 0) c.boxes.next.items c.push.new.self.items c.depth_of.result c.boxes.invariant c.depth_of.ensures c.in_ok-push.ensures.items

pub returns : goal.returns
returns c =
    let last : c.boxes.low ≡ c.args.count = omega (arith, c.boxes-test.false, c.boxes.auto.low-end) in
    subst (λ (k : ℕ). AreDepths c.args.count k (is_above c.args.count c.args.matrix.now) (λ i. get_or c.args.layers.now i 0) c.boxes.next.items) last c.boxes.invariant
