use Rattle.std.proofs.Common.{◌≡◌, ℕ, List, length, All, sym, ap, ◌∙◌, subst}
use Rattle.std.specs.Borrow.{Bor}
use Rattle.std.specs.List.{AllZip}
use Rattle.std.proofs.lemmas.Result.{IfOk-weaker}
use Rattle.std.proofs.lemmas.Slice.Zip.{AllZip-long}
use Rattle.day_partitions.specs.Books.{BookState, all_traces}
use Rattle.kept_books.specs.KeptBooks.{traces_in}
use Rattle.model_meet.specs.ModelStates.{ModelState}
use Rattle.model_meet.specs.RelationBits.{KeepsExclusion}
use Rattle.trace_types.specs.declared.named_segment.NamedSegment.{NamedSegment}
use Rattle.trace_types.specs.declared.named_trace.NamedTrace.{NamedTrace}
use Rattle.trace_types.specs.Parts.{by_number}
use Rattle.trace_rules.specs.CriticalPaths.{AreCriticalPaths, IsCriticalPath}
use Rattle.trace_paths.specs.NumberedPaths.{IsNamedPath, IsPathUnder}
use Rattle.trace_paths.proofs.PathTimeLemmas.{traces_at, paths_are, paths_named}
use Rattle.latency_report.proofs.reporting.report.Goals as goal

pub report_over-requires-clause-traces : goal.report_over-requires-clause-traces
report_over-requires-clause-traces g c =
    ap traces_at c.deref-2.ensures.value ∙ (c.in_ok-traces.ensures.traces ∙ ap (λ (b : BookState). all_traces b.days) c.day_book.ensures.book)

pub report_over-requires-clause-count : goal.report_over-requires-clause-count
report_over-requires-clause-count g c =
    let many : length c.in_ok-paths.paths.items ≡ length c.deref.result.now = AllZip-long (λ (t : Bor NamedTrace) (path : List NamedSegment). IsPathUnder c.new-model.result t.now path) c.deref.result.now c.in_ok-paths.paths.items c.in_ok-paths.ensures in
    ap length c.deref-3.ensures.value ∙ (many ∙ (ap length c.deref.ensures.value ∙ sym (ap length c.deref-2.ensures.value)))

pub report_over-requires-clause-named : goal.report_over-requires-clause-named
report_over-requires-clause-named g c =
    let named : All (IsNamedPath (length c.args.book.now.known.names)) c.in_ok-paths.paths.items =
    subst (λ (k : ℕ). All (IsNamedPath k) c.in_ok-paths.paths.items) (ap (λ (m : ModelState). m.names) c.new-model.ensures ∙ c.names-names.ensures.count)
    (paths_named c.new-model.result c.deref.result.now c.in_ok-paths.paths.items c.in_ok-paths.ensures) in
    subst (All (IsNamedPath (length c.args.book.now.known.names))) (sym c.deref-3.ensures.value) named

pub returns-clause-reported : goal.returns-clause-reported
returns-clause-reported g c =
    let ts = c.in_ok-traces.traces.items in
    let paths = c.in_ok-paths.paths.items in
    let model = c.new-model.result in
    let are : traces_at ts ≡ traces_in c.args.book.now = c.in_ok-traces.ensures.traces ∙ ap (λ (b : BookState). all_traces b.days) c.day_book.ensures.book in
    let words : model.words ≡ c.args.words.now = ap (λ (m : ModelState). m.words) c.new-model.ensures in
    let zipped : AllZip (λ (t : Bor NamedTrace) (path : List NamedSegment). IsPathUnder model t.now path) ts paths =
    subst (λ (l : List (Bor NamedTrace)). AllZip (λ (t : Bor NamedTrace) (path : List NamedSegment). IsPathUnder model t.now path) l paths) c.deref.ensures.value c.in_ok-paths.ensures in
    let critical : AreCriticalPaths by_number (KeepsExclusion c.args.words.now) (traces_in c.args.book.now) paths =
    subst (λ (l : List NamedTrace). AllZip (IsCriticalPath by_number (KeepsExclusion c.args.words.now)) l paths) are
    (subst (λ (ws : List ℕ). AllZip (IsCriticalPath by_number (KeepsExclusion ws)) (traces_at ts) paths) words (paths_are model ts paths zipped)) in
    IfOk-weaker c.report_over.result _ _ (λ report told. told c.args.words.now (subst (AreCriticalPaths by_number (KeepsExclusion c.args.words.now) (traces_in c.args.book.now)) (sym c.deref-3.ensures.value) critical)) c.report_over.ensures
