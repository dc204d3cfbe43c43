-- Forecasts of traces whose names are numbers of a catalogue. Times are in nanoseconds.
use Rattle.std.specs.Prelude.{ℕ, ◌^◌, ◌<◌, List, [], ◌∷◌, Option, Some, None}
use Rattle.model_meet.specs.RelationBits.{KeepsExclusion}
use Rattle.segment_names.specs.Known.{Known, name_number}
use Rattle.session_rules.specs.declared.named_change.NamedChange.{NamedChange}
use Rattle.trace_rules.specs.TraceGraphs.{IsTraceGraph}
use Rattle.trace_rules.specs.declared.forecast.Forecast.{Forecast}
use Rattle.trace_types.specs.Parts.{by_number}
use Rattle.trace_types.specs.declared.named_trace.NamedTrace.{NamedTrace}
use Rattle.weighted_dag.specs.Graphs.{Graph, IsGraph}
use Rattle.what_if.specs.Forecasts.{IsForecast}
use Rattle.what_if.specs.declared.change.Change.{Change}

-- the change of the name with this number; none where there is no number
abbrev pub changes_by : NamedChange → Option ℕ → List Change
changes_by change None = []
changes_by change (Some number) =
    record { name = number; num = change.num; den = change.den } ∷ []

-- the change by the number that its name has in a catalogue
abbrev pub changes_of : Known → NamedChange → List Change
changes_of known change = changes_by change (name_number known change.name)

-- both lengths are below 2 ^ 96, so that those of 2 ^ 32 traces have a sum of 128 bits
abbrev pub IsShort : Forecast → Type 0
IsShort f = (f.before < 2 ^ 96) × (f.after < 2 ^ 96)

-- the forecast of a trace by its graph where these mutual exclusions survive
pub record IsForecastIn (Excludes : ℕ → ℕ → Type 0) (changes : List Change) (trace : NamedTrace)
    (f : Forecast) : Type 0 where
  pub order : List ℕ
  pub graph : Graph
  pub form : IsGraph graph
  pub of_trace : IsTraceGraph by_number Excludes trace order graph
  pub told : IsForecast trace.segments order graph changes f

-- the forecast of a trace by the bits of words
pub record IsForecastUnder (words : List ℕ) (changes : List Change) (trace : NamedTrace)
    (f : Forecast) : Type 0 where
  pub short : IsShort f
  pub told : IsForecastIn (KeepsExclusion words) changes trace f
