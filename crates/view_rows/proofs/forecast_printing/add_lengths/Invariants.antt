use Rattle.std.proofs.Common.{◌≡◌, ◌≤◌, ◌*◌, ◌^◌, take}
use Rattle.std.specs.Prelude.{sum_by}
use Rattle.trace_rules.specs.declared.forecast.Forecast.{Forecast}
use Rattle.view_rows.proofs.forecast_printing.add_lengths.Given as goal

-- the sums of the forecasts so far
abbrev pub invariant-forecasts : goal.invariant-forecasts
invariant-forecasts l = record {
  before : l.before ≡ sum_by (λ (f : Forecast). f.before) (take l.forecast-index l.forecasts);
  after : l.after ≡ sum_by (λ (f : Forecast). f.after) (take l.forecast-index l.forecasts);
  before_bound : l.before ≤ l.forecast-index * 2 ^ 96;
  after_bound : l.after ≤ l.forecast-index * 2 ^ 96;
}
