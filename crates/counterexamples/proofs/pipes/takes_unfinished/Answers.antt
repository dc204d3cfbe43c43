use Rattle.std.proofs.Common.{length, refl, arith, sym, ap, ◌∙◌}
use Rattle.std.proofs.lemmas.Bool.{false≢true}
use Rattle.counterexamples.specs.inner.Ends.{TakesEarlyAt}
use Rattle.counterexamples.proofs.ElementLemmas.{early_at_from, never_more, unfinished, within_trace}
use Rattle.counterexamples.proofs.pipes.takes_unfinished.Goals as goal

pub returns-then-takes_early_at : goal.returns-then-takes_early_at
returns-then-takes_early_at c =
    let early = c.takes_early_at.ensures.0 c.if-takes_early_at.true in
    ((λ h. unfinished c.args.trace.now c.args.from c.args.to early.element early.early), (λ h. refl))

pub segments-preserved : goal.segments-preserved
segments-preserved c = never_more (TakesEarlyAt c.args.trace.now c.args.from c.args.to) c.segments.index c.segments.invariant (λ h. false≢true (sym c.if-takes_early_at.false ∙ c.takes_early_at.ensures.1 h))

pub returns : goal.returns
returns c =
    let trace = c.args.trace.now in
    let many = ap length c.items-index-end.ensures in
    let all = c.segments-test.false in (
      (λ h. absurd (false≢true h)),
      (λ h. absurd (c.segments.invariant h.giver (let w = within_trace trace c.args.from h.element h.giver h.given h.ends.handles in omega arith) (early_at_from trace c.args.from c.args.to h))),
    )
