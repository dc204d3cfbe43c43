use Rattle.std.proofs.Common.{◌≡◌, ◌↔◌, Bool, true, Some, length, slice_get, arith, refl, sym, ap, ◌∙◌, subst}
use Rattle.std.proofs.lemmas.Option.{slice_get_read}
use Rattle.counterexamples.specs.inner.Ends.{TakesEarly}
use Rattle.counterexamples.proofs.ElementLemmas.{early_tells, within_trace}
use Rattle.counterexamples.proofs.pipes.takes_early.Goals as goal

pub returns : goal.returns
returns c =
    let trace = c.args.trace.now in
    let from = c.args.from in
    let to = c.args.to in
    let e = c.args.element in
    let giver = c.in-Some-Some.giver in
    let taker = c.in-Some-Some.taker in
    let s = c.index-segments-giver.result in
    let u = c.index-segments-taker.result in
    let items = c.items-segments.result.now in
    let many = ap length c.items-segments.ensures in
    let ends = c.in-Some-Some.ensures in
    let starts = c.in-Some-Some.ensures' in
    let at_s : slice_get trace.segments giver ≡ Some s = ap (λ l. slice_get l giver) (sym c.items-segments.ensures) ∙ slice_get_read items (length items) giver s refl (let w = within_trace trace from e giver ends.0 ends.1.handles in omega arith) c.index-segments-giver.is in
    let at_u : slice_get trace.segments taker ≡ Some u = ap (λ l. slice_get l taker) (sym c.items-segments.ensures) ∙ slice_get_read items (length items) taker u refl (let w = within_trace trace to e taker starts.0 starts.1.handles in omega arith) c.index-segments-taker.is in
    subst (λ (b : Bool). (b ≡ true) ↔ TakesEarly trace from to e) (sym c.starts_early.ensures) (early_tells trace from to e giver taker s u at_s at_u ends starts)
