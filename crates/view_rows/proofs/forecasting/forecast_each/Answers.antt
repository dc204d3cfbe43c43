use Rattle.std.proofs.Common.{IfOk, subst}
use Rattle.std.specs.Borrow.{Bor}
use Rattle.std.specs.List.{AllZip}
use Rattle.view_rows.specs.inner.NumberedForecasts.{IsForecastUnder}
use Rattle.model_meet.specs.ModelStates.{ModelState}
use Rattle.trace_types.specs.declared.named_trace.NamedTrace.{NamedTrace}
use Rattle.trace_rules.specs.declared.forecast.Forecast.{Forecast}
use Rattle.view_rows.proofs.forecasting.forecast_each.Goals as goal

pub returns : goal.returns
returns g c =
    subst (λ (m : ModelState). IfOk c.forecast_by.result (λ forecasts. AllZip (λ (t : Bor NamedTrace) (f : Forecast). IsForecastUnder m.words c.args.changes.now t.now f) c.args.traces.now forecasts.items)) c.in_ok-exclusions.ensures c.forecast_by.ensures
