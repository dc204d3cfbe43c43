use Rattle.std.proofs.Common.{◌≡◌, ◌∙◌, ℕ, Bool, eqb, get_or, length, sym, subst, arith}
use Rattle.graph_layers.specs.inner.Depths.{tally}
use Rattle.graph_layers.proofs.DepthLemmas.{tally_more, tally_most, tally_same_more}
use Rattle.graph_layers.proofs.seating.size_of.Goals as goal
use Rattle.graph_layers.proofs.seating.size_of.Goals.{then-is_in, else-is_in}

pub overflow_add-size : goal.overflow_add-size
overflow_add-size c =
    let most = tally_most (λ a. eqb (get_or c.args.layers.now a 0) c.args.layer) c.boxes.one in
    omega (arith, most, c.boxes.invariant, c.boxes-test.true, c.requires)

pub boxes-preserved : goal.boxes-preserved
boxes-preserved c =
    let p : ℕ → Bool = (λ a. eqb (get_or c.args.layers.now a 0) c.args.layer) in
    let n = c.boxes.one in
    elim c.if-is_in.branch [
      | then-is_in w ↦
          let more = tally_more p n (sym c.is_in.ensures ∙ w.if-is_in.true) in
          omega (arith, more, w.size-is, c.boxes.invariant)
      | else-is_in w ↦ w.size-is ∙ c.boxes.invariant ∙ sym (tally_same_more p n (sym c.is_in.ensures ∙ w.if-is_in.false))
    ]

pub returns-clause-value : goal.returns-clause-value
returns-clause-value c =
    let last : c.boxes.one ≡ length c.args.layers.now = omega (arith, c.boxes-test.false, c.boxes.auto.one-end) in
    subst (λ (k : ℕ). c.boxes.size ≡ tally (λ a. eqb (get_or c.args.layers.now a 0) c.args.layer) k) last c.boxes.invariant

pub returns-clause-small : goal.returns-clause-small
returns-clause-small c =
    let most = tally_most (λ a. eqb (get_or c.args.layers.now a 0) c.args.layer) c.boxes.one in
    omega (arith, most, c.boxes.invariant, c.boxes.auto.one-end, c.requires)
