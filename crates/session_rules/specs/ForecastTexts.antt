-- The printed text of a forecast: how long the critical paths of kept traces are where the mutual
-- exclusions in Excludes survive, and how long they would be if the segments of one name took less
-- time. Times are in nanoseconds.
use Rattle.std.specs.Prelude.{◌≡◌, ℕ, ◌*◌, ◌/◌, ◌<◌, List, [], ◌∷◌, length, sum_by, codes, decimal}
use Rattle.std.specs.Prelude.{if◌then◌else◌, slice_index}
use Rattle.std.specs.List.{AllZip}
use Rattle.segment_names.specs.Known.{same_name}
use Rattle.text_rows.specs.Rows.{figure, row_of}
use Rattle.trace_rules.specs.declared.forecast.Forecast.{Forecast}
use Rattle.trace_types.specs.Segments.{SegmentName}
use Rattle.weighted_dag.specs.Chains.{IsLongestLength}
use Rattle.weighted_dag.specs.Graphs.{Graph, order_of, weight_of, with_weights}
use Rattle.session_rules.specs.declared.named_change.NamedChange.{NamedChange}
use Rattle.session_rules.specs.KeptTraces.{Kept}
use Rattle.session_rules.specs.TraceTexts.{IsGraphOf, name_of_vertex}

-- how long a segment of this name would take that now takes so long, rounded down
abbrev pub time_under : NamedChange → SegmentName → ℕ → ℕ
time_under change name time =
    if same_name change.name name then time * change.num / change.den else time

-- the length of a kept trace's critical path, and the greatest length of a chain of its graph if
-- the segments took the time that they have under the change
pub record IsForecastOf (change : NamedChange) (Excludes : SegmentName → SegmentName → Type 0)
    (k : Kept) (f : Forecast) : Type 0 where
  pub order : List ℕ
  pub graph : Graph
  pub weights : List ℕ
  pub is : IsGraphOf Excludes k order graph
  pub count : length weights ≡ order_of graph
  pub changed : (v : ℕ) → v < order_of graph
      → slice_index weights v ≡ time_under change (name_of_vertex k order v) (weight_of graph v)
  pub before : IsLongestLength graph f.before
  pub after : IsLongestLength (with_weights graph weights) f.after

-- `whatif`, how many traces are kept, how long their critical paths are together, and how long they
-- would be
pub record IsForecastHead (change : NamedChange) (Excludes : SegmentName → SegmentName → Type 0)
    (kept : List Kept) (bytes : List ℕ) : Type 0 where
  pub forecasts : List Forecast
  pub told : AllZip (IsForecastOf change Excludes) kept forecasts
  pub text : bytes ≡ row_of (codes "whatif"
      ∷ figure (codes "traces") (length kept)
      ∷ figure (codes "before") (sum_by (λ (f : Forecast). f.before) forecasts)
      ∷ figure (codes "after") (sum_by (λ (f : Forecast). f.after) forecasts) ∷ [])

-- `forecast`, the request and the day of a kept trace, and both lengths
pub record IsForecastText (change : NamedChange) (Excludes : SegmentName → SegmentName → Type 0)
    (k : Kept) (bytes : List ℕ) : Type 0 where
  pub forecast : Forecast
  pub told : IsForecastOf change Excludes k forecast
  pub text : bytes ≡ row_of (codes "forecast" ∷ k.trace.request ∷ decimal k.trace.day
      ∷ decimal forecast.before ∷ decimal forecast.after ∷ [])
