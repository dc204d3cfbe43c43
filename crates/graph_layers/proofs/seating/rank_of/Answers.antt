use Rattle.std.proofs.Common.{◌≡◌, ◌∙◌, ℕ, Bool, length, sym, subst, arith}
use Rattle.graph_layers.specs.inner.Depths.{tally}
use Rattle.graph_layers.specs.inner.Seats.{is_before}
use Rattle.graph_layers.proofs.DepthLemmas.{tally_more, tally_most, tally_same_more}
use Rattle.graph_layers.proofs.seating.rank_of.Goals as goal
use Rattle.graph_layers.proofs.seating.rank_of.Goals.{then-is_before, else-is_before}

pub overflow_add-rank : goal.overflow_add-rank
overflow_add-rank c =
    let most = tally_most (λ a. is_before c.args.layers.now c.args.keys.now a c.args.number) c.boxes.one in
    omega (arith, most, c.boxes.invariant, c.boxes-test.true, c.requires.few)

pub boxes-preserved : goal.boxes-preserved
boxes-preserved c =
    let p : ℕ → Bool = (λ a. is_before c.args.layers.now c.args.keys.now a c.args.number) in
    let n = c.boxes.one in
    elim c.if-is_before.branch [
      | then-is_before w ↦
          let more = tally_more p n (sym c.is_before.ensures ∙ w.if-is_before.true) in
          omega (arith, more, w.rank-is, c.boxes.invariant)
      | else-is_before w ↦ w.rank-is ∙ c.boxes.invariant ∙ sym (tally_same_more p n (sym c.is_before.ensures ∙ w.if-is_before.false))
    ]

pub returns-clause-value : goal.returns-clause-value
returns-clause-value c =
    let last : c.boxes.one ≡ length c.args.layers.now = omega (arith, c.boxes-test.false, c.boxes.auto.one-end) in
    subst (λ (k : ℕ). c.boxes.rank ≡ tally (λ a. is_before c.args.layers.now c.args.keys.now a c.args.number) k) last c.boxes.invariant

pub returns-clause-small : goal.returns-clause-small
returns-clause-small c =
    let most = tally_most (λ a. is_before c.args.layers.now c.args.keys.now a c.args.number) c.boxes.one in
    omega (arith, most, c.boxes.invariant, c.boxes.auto.one-end, c.requires.few)
