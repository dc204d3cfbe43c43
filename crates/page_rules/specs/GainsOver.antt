-- What a change of segments gains over traces. Lengths are in nanoseconds. This is the project's
-- own.
use Rattle.std.specs.Prelude.{◌≡◌, ℕ, ◌+◌, List, sum_by}
use Rattle.std.specs.List.{AllZip}
use Rattle.trace_rules.specs.declared.forecast.Forecast.{Forecast}

-- by how much the critical paths of traces are longer together than they would be under a change,
-- by the forecast of each trace
pub record IsGainOver {A : Type 0} (IsForecastOf : A → Forecast → Type 0) (traces : List A)
    (gain : ℕ) : Type 0 where
  pub forecasts : List Forecast
  pub told : AllZip IsForecastOf traces forecasts
  pub difference : sum_by (λ (f : Forecast). f.after) forecasts + gain
      ≡ sum_by (λ (f : Forecast). f.before) forecasts
