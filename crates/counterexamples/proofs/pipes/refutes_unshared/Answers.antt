use Rattle.std.proofs.Common.{length, refl, arith, sym, ap, ◌∙◌}
use Rattle.std.proofs.lemmas.Bool.{false≢true}
use Rattle.counterexamples.specs.inner.Ends.{SharesAt}
use Rattle.counterexamples.proofs.ElementLemmas.{never_more, shares_from, unshared_from, within_trace}
use Rattle.counterexamples.proofs.pipes.refutes_unshared.Goals as goal

pub returns-then-shares_at : goal.returns-then-shares_at
returns-then-shares_at c =
    ((λ h. unshared_from c.args.trace.now c.args.low c.args.high c.segments.index (c.shares_at.ensures.0 c.if-shares_at.true)), (λ h. refl))

pub segments-preserved : goal.segments-preserved
segments-preserved c = never_more (SharesAt c.args.trace.now c.args.low c.args.high) c.segments.index c.segments.invariant (λ h. false≢true (sym c.if-shares_at.false ∙ c.shares_at.ensures.1 h))

pub returns : goal.returns
returns c =
    let trace = c.args.trace.now in
    let many = ap length c.items-index-end.ensures in
    let all = c.segments-test.false in (
      (λ h. absurd (false≢true h)),
      (λ h. absurd (c.segments.invariant h.k (let w = within_trace trace c.args.low h.element h.k h.s h.one in omega arith) (shares_from trace c.args.low c.args.high h))),
    )
