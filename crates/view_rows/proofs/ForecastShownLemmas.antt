-- A forecast by number is that of the kept trace.
use Rattle.std.proofs.Common.{◌≡◌, ℕ, ◌*◌, ◌/◌, ◌<◌, List, [], length, get_or, slice_get, slice_index, Option, Some, None, Bool, Contains, ◌↔◌, refl, sym, ◌∙◌, ap, subst}
use Rattle.std.specs.Prelude.{if◌then◌else◌}
use Rattle.std.specs.List.{enumerate_from}
use Rattle.std.specs.Option.{option_map_or}
use Rattle.std.proofs.lemmas.Option.{get_or_from_slice_get, slice_get-get_or}
use Rattle.book_laws.specs.Shown.{IsShown}
use Rattle.digest_facts.specs.Digests.{Digest}
use Rattle.judged_books.specs.JudgedLaws.{AreJudgedWords, JudgedGraphIsShown}
use Rattle.model_meet.specs.RelationBits.{KeepsExclusion}
use Rattle.segment_names.specs.Known.{Known, name_number}
use Rattle.segment_names.specs.Limits.{IsKept}
use Rattle.session_rules.specs.ForecastTexts.{IsForecastOf, time_under}
use Rattle.session_rules.specs.GivenDigests.{SurvivesUnder}
use Rattle.session_rules.specs.KeptTraces.{Kept, by_kept}
use Rattle.session_rules.specs.TraceTexts.{name_of_vertex}
use Rattle.session_rules.specs.declared.named_change.NamedChange.{NamedChange}
use Rattle.trace_rules.specs.TraceGraphs.{IsTraceGraph}
use Rattle.trace_types.specs.Parts.{by_number}
use Rattle.trace_types.specs.Renaming.{IsSegmentRenamed}
use Rattle.trace_types.specs.Segments.{SegmentName, name_of}
use Rattle.trace_types.specs.declared.named_trace.NamedTrace.{NamedTrace}
use Rattle.weighted_dag.specs.Graphs.{Graph, order_of, weight_of}
use Rattle.what_if.specs.Forecasts.{AreChanged, changed_time}
use Rattle.trace_rules.specs.declared.forecast.Forecast.{Forecast}
use Rattle.trace_types.proofs.ZipLemmas.{zip_at}
use Rattle.view_rows.specs.inner.NumberedForecasts.{IsForecastIn, changes_by, changes_of}
use Rattle.view_rows.proofs.ForecastNumberLemmas.{no_number, number_tells}

-- each number stands beside its name
abbrev AreNumbered : Known → Type 0
AreNumbered known = (i : ℕ) (name : SegmentName) → Contains (enumerate_from 0 known.names) (i, name) ↔ (slice_get known.names i ≡ Some name)

-- the time under the change by number is that under the change by text
time_by : (known : Known) (change : NamedChange) (number : ℕ) (name : SegmentName) (time : ℕ) (o : Option ℕ) → IsKept known → name_number known change.name ≡ o → slice_get known.names number ≡ Some name
    → changed_time (changes_by change o) number time ≡ time_under change name time
time_by known change number name time None fits found here =
    sym (ap (λ (b : Bool). if b then time * change.num / change.den else time) (no_number known.names change.name name number found here))
time_by known change number name time (Some n) fits found here =
    ap (λ (b : Bool). if b then time * change.num / change.den else time) (number_tells known.names fits.names_differ change.name name n number found here)

vertex_time : (known : Known) (change : NamedChange) (Excludes : ℕ → ℕ → Type 0) (t : NamedTrace) (k : Kept) (order : List ℕ) (g : Graph) (weights : List ℕ) → IsKept known → AreNumbered known → IsShown known t k → IsTraceGraph by_number Excludes t order g
    → AreChanged t.segments order (changes_of known change) g.weights weights → (v : ℕ) → v < order_of g → slice_index weights v ≡ time_under change (name_of_vertex k order v) (weight_of g v)
vertex_time known change Excludes t k order g weights fits numbered shown graph changed v lt =
    let within : v < length order = subst (λ n. v < n) graph.has.count lt in
    let index = slice_get-get_or order v 0 within in
    let placed : slice_index order v < length t.segments = (graph.has.vertices.all (get_or order v 0)).0 (v, within, get_or_from_slice_get order v (get_or order v 0) (get_or order v 0) index) in
    let at = zip_at (IsSegmentRenamed by_number by_kept (enumerate_from 0 known.names) (enumerate_from 0 known.tasks) shown.renamed.elements) t.segments k.trace.segments (slice_index order v) shown.renamed.segments placed in
    let name : slice_get known.names at.0.name ≡ Some (name_of at.1) = (numbered at.0.name (name_of at.1)).0 at.4.name in
    let called : name_of_vertex k order v ≡ name_of at.1 = ap (λ o. option_map_or name_of o ([], [], [])) at.3 in
    changed.weights v (slice_index order v) at.0 index at.2
    ∙ (time_by known change at.0.name (name_of at.1) (weight_of g v) (name_number known change.name) fits refl name
    ∙ ap (λ n. time_under change n (weight_of g v)) (sym called))

pub shown_forecast : (known : Known) (given : Digest SegmentName (List ℕ)) (words : List ℕ) (kept : List Kept) (t : NamedTrace) (k : Kept) (change : NamedChange) (f : Forecast) → JudgedGraphIsShown → AreNumbered known → IsKept known → AreJudgedWords known given kept words
    → IsShown known t k → IsForecastIn (KeepsExclusion words) (changes_of known change) t f → IsForecastOf change (SurvivesUnder given kept) k f
shown_forecast known given words kept t k change f graphs numbered fits judge shown h = record {
  order = h.order;
  graph = h.graph;
  weights = h.told.weights;
  is = graphs known given kept words t k h.order h.graph fits judge shown h.form h.of_trace;
  count = h.told.changed.count;
  changed = vertex_time known change (KeepsExclusion words) t k h.order h.graph h.told.weights fits numbered shown h.of_trace h.told.changed;
  before = h.told.before;
  after = h.told.after;
}
