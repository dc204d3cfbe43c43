use Rattle.std.proofs.Common.{◌≡◌, ◌∙◌, ℕ, Bool, get_or, sym, subst, arith}
use Rattle.graph_layers.specs.inner.Chains.{is_above}
use Rattle.graph_layers.specs.inner.Depths.{depth_over}
use Rattle.graph_layers.proofs.DepthLemmas.{depth_more, depth_same_more}
use Rattle.graph_layers.proofs.layering.depth_of.Goals as goal
use Rattle.graph_layers.proofs.layering.depth_of.Goals.{then-is_above, else-is_above}

pub boxes-preserved : goal.boxes-preserved
boxes-preserved c =
    let p : ℕ → Bool = (λ a. is_above c.args.count c.args.matrix.now a c.args.low) in
    let f : ℕ → ℕ = (λ i. get_or c.args.layers.now i 0) in
    let n = c.boxes.high in
    elim c.if-is_above.branch [
      | then-is_above w ↦
          let more = depth_more p f n (sym c.is_above.ensures ∙ w.if-is_above.true) in
          omega (arith, more, w.depth-is, c.boxes.invariant, w.max-depth.ensures)
      | else-is_above w ↦ w.depth-is ∙ c.boxes.invariant ∙ sym (depth_same_more p f n (sym c.is_above.ensures ∙ w.if-is_above.false))
    ]

pub returns : goal.returns
returns c =
    let last : c.boxes.high ≡ c.args.count = omega (arith, c.boxes-test.false, c.boxes.auto.high-end) in
    subst (λ (k : ℕ). c.boxes.depth ≡ depth_over (λ a. is_above c.args.count c.args.matrix.now a c.args.low) (λ i. get_or c.args.layers.now i 0) k) last c.boxes.invariant
