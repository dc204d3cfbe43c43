use Rattle.std.proofs.Common.{◌≡◌, Some, eqb, length, slice_get, arith, refl, sym, ap, ◌∙◌}
use Rattle.trace_types.specs.NamedSegments.{number_of_element}
use Rattle.std.specs.Option.{option_eq}
use Rattle.std.proofs.lemmas.Bool.{false≢true, not-false, not-true}
use Rattle.std.proofs.lemmas.Option.{slice_get_read}
use Rattle.counterexamples.proofs.ElementLemmas.{not_taken, option_same, same_option, taken_if}
use Rattle.counterexamples.proofs.pipes.taken_at.Goals as goal

pub returns-then-ne : goal.returns-then-ne
returns-then-ne c =
    let trace = c.args.trace.now in
    let i = c.args.index in
    let s = c.index-items-index.result in
    let items = c.items.result.now in
    let many = ap length c.items.ensures in
    let within = c.requires in
    let at : slice_get trace.segments i ≡ Some s = ap (λ l. slice_get l i) (sym c.items.ensures) ∙ slice_get_read items (length items) i s refl (omega arith) c.index-items-index.is in
    let differ = not-true (option_eq eqb c.start_of.result (Some i)) (sym c.if-ne.ensures) in
    not_taken trace c.args.from c.args.to i c.in_ok-element.element s c.start_of.result at (ap number_of_element c.index-items-index.is ∙ c.in_ok-element.was) c.start_of.ensures (λ e. false≢true (sym differ ∙ option_same c.start_of.result i e))

pub returns : goal.returns
returns c =
    let trace = c.args.trace.now in
    let i = c.args.index in
    let s = c.index-items-index.result in
    let items = c.items.result.now in
    let many = ap length c.items.ensures in
    let within = c.requires in
    let at : slice_get trace.segments i ≡ Some s = ap (λ l. slice_get l i) (sym c.items.ensures) ∙ slice_get_read items (length items) i s refl (omega arith) c.index-items-index.is in
    let same = not-false (option_eq eqb c.start_of.result (Some i)) (sym c.if-ne.ensures) in
    taken_if trace c.args.from c.args.to i c.in_ok-element.element s c.start_of.result c.start_of-2.result at (ap number_of_element c.index-items-index.is ∙ c.in_ok-element.was) c.start_of.ensures (same_option c.start_of.result i same) c.start_of-2.ensures
