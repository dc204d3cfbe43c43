-- What the segments with one name gain over traces, by the prediction for that name alone. Times are
-- in nanoseconds. This is the project's own.
use Rattle.std.specs.Prelude.{◌≡◌, ℕ, ◌+◌, ◌<◌, List, [], ◌∷◌, length, slice_index_or, sum_by}
use Rattle.std.specs.List.{AllZip}
use Rattle.gain_table.specs.declared.gain_row.GainRow.{GainRow}
use Rattle.trace_rules.specs.TraceGraphs.{IsTraceGraph}
use Rattle.trace_rules.specs.declared.forecast.Forecast.{Forecast}
use Rattle.trace_types.specs.Parts.{by_number}
use Rattle.trace_types.specs.declared.named_trace.NamedTrace.{NamedTrace}
use Rattle.weighted_dag.specs.Graphs.{Graph}
use Rattle.what_if.specs.Forecasts.{IsForecast}
use Rattle.what_if.specs.declared.change.Change.{Change}

-- the segments with this name take no time, and half of it
abbrev pub takes_none : ℕ → Change
takes_none name = record { name = name; num = 0; den = 1 }

abbrev pub takes_half : ℕ → Change
takes_half name = record { name = name; num = 1; den = 2 }

-- the prediction of one change over the graph of a trace, where these mutual exclusions survive
pub record IsPredicted (Excludes : ℕ → ℕ → Type 0) (change : Change) (trace : NamedTrace)
    (forecast : Forecast) : Type 0 where
  pub order : List ℕ
  pub graph : Graph
  pub is_graph : IsTraceGraph by_number Excludes trace order graph
  pub is_forecast : IsForecast trace.segments order graph (change ∷ []) forecast

-- what a change gains over traces: by how much the lengths before it add up to more than those after
-- it
pub record IsGainOver (Excludes : ℕ → ℕ → Type 0) (traces : List NamedTrace) (change : Change)
    (gain : ℕ) : Type 0 where
  pub forecasts : List Forecast
  pub predicted : AllZip (IsPredicted Excludes change) traces forecasts
  pub difference : sum_by (λ (f : Forecast). f.after) forecasts + gain
      ≡ sum_by (λ (f : Forecast). f.before) forecasts

-- the row of a name: the gains of the predictions with no time, and with half, for the name alone
pub record IsGainRow (Excludes : ℕ → ℕ → Type 0) (traces : List NamedTrace) (row : GainRow)
    : Type 0 where
  pub none : IsGainOver Excludes traces (takes_none row.name) row.none
  pub half : IsGainOver Excludes traces (takes_half row.name) row.half

-- a row for each number of a name below this one, by its number
pub record AreGainRows (Excludes : ℕ → ℕ → Type 0) (traces : List NamedTrace) (names : ℕ)
    (rows : List GainRow) : Type 0 where
  pub count : length rows ≡ names
  pub each : (name : ℕ) (d : GainRow) → name < names
      → IsGainRow Excludes traces (slice_index_or rows name d)
      × ((slice_index_or rows name d).name ≡ name)
