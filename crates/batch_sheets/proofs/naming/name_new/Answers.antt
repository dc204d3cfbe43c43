use Rattle.std.proofs.Common.{◌≡◌, ◌∷◌, [], sym, subst}
use Rattle.std.proofs.lemmas.Result.{err_from_is_err_and}
use Rattle.book_laws.specs.Shown.{IsShown}
use Rattle.segment_names.specs.Known.{Known}
use Rattle.segment_names.specs.Limits.{HasCause, PassesLimit}
use Rattle.segment_names.specs.Naming.{HasUnknown}
use Rattle.session_rules.specs.KeptTraces.{kept_with}
use Rattle.trace_types.specs.declared.trace.Trace.{Trace}
use Rattle.batch_sheets.specs.inner.Growth.{AddsAndNames}
use Rattle.batch_sheets.proofs.GrowthLemmas.{adds_one, one_passes}
use Rattle.batch_sheets.proofs.NameLemmas.{graced, known_after}
use Rattle.batch_sheets.proofs.naming.name_new.Goals as goal

pub returns-in_err-add-clause-cause : goal.returns-in_err-add-clause-cause
returns-in_err-add-clause-cause c =
    let old = c.args.catalogue.now in
    let fault = c.in_err-add.field-0.0 in
    let p = err_from_is_err_and c.from_residual-in_err-add.result c.from_residual-in_err-add.ensures.1 in
    rw (p.1, p.2) (subst (λ (t : Trace). HasCause (PassesLimit old (t ∷ [])) fault) c.in_ok-trace.ensures (one_passes old c.in_ok-trace.trace fault c.names-before.ensures.kept c.in_err-add.ensures.cause))

pub unreachable-requires : goal.unreachable-requires
unreachable-requires c =
    let trace = c.in_ok-trace.trace in
    let refused = rw c.in-Err-Unknown.field-0-is at c.in-Err-Unknown.ensures.refused in
    known_after c.args.catalogue.now trace (subst (λ (k : Known). HasUnknown k trace.segments) c.in_ok-add.ensures.added (c.in-Err-Unknown.field-0-1, refused.1.0))

pub returns-in-Ok-clause-named : goal.returns-in-Ok-clause-named
returns-in-Ok-clause-named c =
    let old = c.args.catalogue.now in
    let new = c.add.new.self in
    let trace = c.in_ok-trace.trace in
    let is = c.in-Ok.ensures in
    let now = c.with_grace.ensures in
    let shown : IsShown new c.with_grace.result (kept_with c.args.grace trace) = graced new c.in-Ok.named c.with_grace.result trace c.args.grace is.named is.request is.day is.latency now.changed now.request now.day now.latency now.segments in
    subst (λ (t : Trace). AddsAndNames old new c.args.grace (t ∷ []) (c.with_grace.result ∷ [])) c.in_ok-trace.ensures
    (adds_one old new c.args.grace trace c.with_grace.result c.names-before.ensures.kept c.names-after.ensures.kept c.in_ok-add.ensures.added shown)
