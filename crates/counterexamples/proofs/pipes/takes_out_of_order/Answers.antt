use Rattle.std.proofs.Common.{◌+◌, ℕ, length, refl, arith, sym, ap, subst}
use Rattle.std.proofs.lemmas.Bool.{false≢true}
use Rattle.std.proofs.lemmas.Option.{MatchOption-at_none}
use Rattle.counterexamples.specs.inner.Ends.{TakesAt}
use Rattle.counterexamples.proofs.ElementLemmas.{within_trace}
use Rattle.counterexamples.proofs.OrderLemmas.{AreInOrder, not_out_of_order, order_kept, order_more, out_of_order}
use Rattle.counterexamples.proofs.pipes.takes_out_of_order.Goals as goal
use Rattle.counterexamples.proofs.pipes.takes_out_of_order.Goals.{in-Some+else-taken-greatest, in_default}

pub returns-then-taken-greatest : goal.returns-then-taken-greatest
returns-then-taken-greatest c =
    ((λ h. out_of_order c.args.trace.now c.args.from c.args.to c.segments.index c.segments.greatest c.in-Some.taken c.in-Some.ensures c.if-taken-greatest.true c.segments.invariant), (λ h. refl))

pub segments-preserved : goal.segments-preserved
segments-preserved c =
    let trace = c.args.trace.now in
    let from = c.args.from in
    let to = c.args.to in
    let i = c.segments.index in
    let greatest = c.segments.greatest in
    elim c.match-taken_at.branch [
      | in-Some+else-taken-greatest w ↦ subst (AreInOrder trace from to (i + 1)) (sym w.greatest-is) (order_more trace from to i greatest w.in-Some.taken w.in-Some.ensures w.if-taken-greatest.false c.segments.invariant)
      | in_default w ↦ subst (AreInOrder trace from to (i + 1)) (sym w.greatest-is) (order_kept trace from to i greatest (MatchOption-at_none ((x : ℕ) → TakesAt trace from to i x → ⊥) (TakesAt trace from to i) w.in_default.is c.taken_at.ensures) c.segments.invariant)
    ]

pub returns : goal.returns
returns c =
    let trace = c.args.trace.now in
    let many = ap length c.items-index-end.ensures in
    let all = c.segments-test.false in (
      (λ h. absurd (false≢true h)),
      (λ h. absurd (not_out_of_order trace c.args.from c.args.to c.segments.index c.segments.greatest c.segments.invariant (λ k t e (s, start). let w = within_trace trace t e k s start.handles in omega arith) h)),
    )
