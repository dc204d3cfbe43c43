use Rattle.std.proofs.Common.{◌≡◌, length, refl, sym, subst, ◌∙◌}
use Rattle.std.proofs.lemmas.Option.{same_Some, slice_get_read, slice_get_within}
use Rattle.pipeline_tests.specs.Rows.{IsWholeRow}
use Rattle.trace_types.specs.declared.named_trace.NamedTrace.{NamedTrace}
use Rattle.counterexamples.proofs.FirstLemmas.{trace_at, trace_noted}
use Rattle.counterexamples.proofs.finding_all.note_trace.Goals as goal

pub returns : goal.returns
returns c =
    let t : NamedTrace = c.requires.stands.0 in
    let at = trace_at c.args.book.now.days c.args.finding c.traces.result.now c.traces.ensures t c.requires.stands.1 in
    let read = slice_get_read c.traces.result.now (length c.traces.result.now) c.args.finding.index c.index-traces-finding.result refl (slice_get_within c.traces.result.now c.args.finding.index t at) c.index-traces-finding.is in
    let same : c.index-traces-finding.result ≡ t = same_Some c.index-traces-finding.result t (sym read ∙ at) in
    trace_noted c.places_differ.ensures c.places_fit.ensures c.args.book.now c.requires.kept.names c.args.words.now c.note_row.new.words c.args.finding t c.in_ok-row.row c.requires.stands.1 (subst (λ (u : NamedTrace). IsWholeRow u c.in_ok-row.row) same c.in_ok-row.ensures.exact) c.requires.before c.note_row.ensures
