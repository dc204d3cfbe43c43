-- The rows of forecasts of traces whose names are numbers of a catalogue.
use Rattle.std.specs.Prelude.{ℕ, List, [], ◌∷◌, ◌++◌, length, sum_by, codes, decimal}
use Rattle.text_rows.specs.Rows.{figure, row_of}
use Rattle.trace_rules.specs.declared.forecast.Forecast.{Forecast}
use Rattle.trace_types.specs.declared.named_trace.NamedTrace.{NamedTrace}

-- `whatif`, the number of forecasts and both sums
abbrev pub head_row : List Forecast → List ℕ
head_row forecasts =
    row_of (codes "whatif"
    ∷ figure (codes "traces") (length forecasts)
    ∷ figure (codes "before") (sum_by (λ (f : Forecast). f.before) forecasts)
    ∷ figure (codes "after") (sum_by (λ (f : Forecast). f.after) forecasts) ∷ [])

-- `forecast`, the request and the day of a trace, and both lengths
abbrev pub forecast_row : NamedTrace → Forecast → List ℕ
forecast_row trace f =
    row_of (codes "forecast" ∷ trace.request ∷ decimal trace.day
    ∷ decimal f.before ∷ decimal f.after ∷ [])

-- the row of each trace with its forecast
abbrev pub forecast_rows : List NamedTrace → List Forecast → List ℕ
forecast_rows [] fs = []
forecast_rows (t ∷ ts) [] = []
forecast_rows (t ∷ ts) (f ∷ fs) = forecast_row t f ++ forecast_rows ts fs

-- the header and the rows
abbrev pub forecast_text : List NamedTrace → List Forecast → List ℕ
forecast_text traces forecasts = head_row forecasts ++ forecast_rows traces forecasts
