use Rattle.std.proofs.Common.{◌≡◌, Some, length, slice_get, arith, refl, sym, ap, ◌∙◌}
use Rattle.std.proofs.lemmas.Option.{slice_get_read}
use Rattle.counterexamples.proofs.ElementLemmas.{early_at_told}
use Rattle.counterexamples.proofs.pipes.takes_early_at.Goals as goal

pub returns : goal.returns
returns c =
    let trace = c.args.trace.now in
    let i = c.args.index in
    let s = c.index-items-index.result in
    let items = c.items.result.now in
    let many = ap length c.items.ensures in
    let within = c.requires in
    let at : slice_get trace.segments i ≡ Some s = ap (λ l. slice_get l i) (sym c.items.ensures) ∙ slice_get_read items (length items) i s refl (omega arith) c.index-items-index.is in
    early_at_told trace c.args.from c.args.to i c.in-Some.element s c.takes_early.result at c.in-Some.is c.takes_early.ensures
