use Rattle.std.proofs.Common.{◌≡◌, ◌↔◌, Bool, true, Some, length, slice_get, arith, refl, sym, ap, ◌∙◌, subst}
use Rattle.std.proofs.lemmas.Bool.{eqb-true}
use Rattle.std.proofs.lemmas.Option.{slice_get_read}
use Rattle.counterexamples.specs.inner.Ends.{SharesAt}
use Rattle.counterexamples.proofs.ElementLemmas.{not_shared, shares_told}
use Rattle.counterexamples.proofs.pipes.shares_at.Goals as goal

pub returns-then-segment-low : goal.returns-then-segment-low
returns-then-segment-low c =
    let trace = c.args.trace.now in
    let i = c.args.index in
    let s = c.index-items-index.result in
    let items = c.items.result.now in
    let many = ap length c.items.ensures in
    let within = c.requires in
    let at : slice_get trace.segments i ≡ Some s = ap (λ l. slice_get l i) (sym c.items.ensures) ∙ slice_get_read items (length items) i s refl (omega arith) c.index-items-index.is in
    subst (λ (b : Bool). (b ≡ true) ↔ SharesAt trace c.args.low c.args.high i) (sym c.is_some.ensures)
    (shares_told trace c.args.low c.args.high i c.in-Some.element s c.start_of.result at c.in-Some.is c.if-segment-low.true c.start_of.ensures)

pub returns-else-segment-low : goal.returns-else-segment-low
returns-else-segment-low c =
    let trace = c.args.trace.now in
    let i = c.args.index in
    let s = c.index-items-index.result in
    let items = c.items.result.now in
    let many = ap length c.items.ensures in
    let within = c.requires in
    let at : slice_get trace.segments i ≡ Some s = ap (λ l. slice_get l i) (sym c.items.ensures) ∙ slice_get_read items (length items) i s refl (omega arith) c.index-items-index.is in (
      (λ h. absurd (c.if-segment-low.false (eqb-true s.task c.args.low h))),
      (λ h. absurd (not_shared trace c.args.low c.args.high i c.in-Some.element s at c.in-Some.is c.if-segment-low.false h)),
    )
