use Rattle.std.proofs.Common.{List, length, refl, sym, ap, ◌∙◌}
use Rattle.std.specs.Prelude.{slice_get}
use Rattle.std.proofs.lemmas.Bool.{false≢true}
use Rattle.std.proofs.lemmas.Option.{slice_get_read}
use Rattle.std.proofs.lemmas.Slice.Eq.{bytes_eq-Decides}
use Rattle.trace_types.specs.declared.named_trace.NamedTrace.{NamedTrace}
use Rattle.counterexamples.proofs.ShownLemmas.{other_request, shown_iff}
use Rattle.counterexamples.proofs.claims.shown.Goals as goal

pub returns-then-eq : goal.returns-then-eq
returns-then-eq c =
    shown_iff c.args.catalogue.now c.args.book.now.days c.args.claim.now c.in-Some.relation c.in-Some-get.trace.now c.refutes.result (sym c.relation_of.ensures ∙ c.in-Some.is)
    (ap (λ (l : List NamedTrace). slice_get l c.args.claim.now.index) (sym c.traces_of.ensures) ∙ (let m = c.in-Some-get.ensures.lookup in slice_get_read c.traces_of.result.now (length c.traces_of.result.now) c.args.claim.now.index c.in-Some-get.trace.now refl m.3.0 m.1))
    ((bytes_eq-Decides c.in-Some-get.trace.now.request c.args.claim.now.request).0 (sym c.eq.ensures ∙ c.if-eq.true)) c.refutes.ensures

pub returns-else-eq : goal.returns-else-eq
returns-else-eq c =
    other_request c.args.catalogue.now c.args.book.now.days c.args.claim.now c.in-Some.relation c.in-Some-get.trace.now c.eq.result
    (ap (λ (l : List NamedTrace). slice_get l c.args.claim.now.index) (sym c.traces_of.ensures) ∙ (let m = c.in-Some-get.ensures.lookup in slice_get_read c.traces_of.result.now (length c.traces_of.result.now) c.args.claim.now.index c.in-Some-get.trace.now refl m.3.0 m.1))
    (λ same. false≢true (sym c.if-eq.false ∙ (c.eq.ensures ∙ (bytes_eq-Decides c.in-Some-get.trace.now.request c.args.claim.now.request).1 same))) c.if-eq.false
