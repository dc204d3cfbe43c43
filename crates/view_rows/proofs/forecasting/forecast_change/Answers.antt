use Rattle.std.proofs.Common.{◌≡◌, ℕ, IfOk, Option, Some, None, subst}
use Rattle.std.specs.Borrow.{Bor}
use Rattle.std.specs.List.{AllZip}
use Rattle.segment_names.specs.Known.{name_number}
use Rattle.trace_types.specs.declared.named_trace.NamedTrace.{NamedTrace}
use Rattle.view_rows.specs.inner.NumberedForecasts.{IsForecastUnder, changes_by}
use Rattle.view_rows.proofs.forecasting.forecast_change.Goals as goal

pub returns-in_default : goal.returns-in_default
returns-in_default g c =
    let is = c.in_default.is in
    let found = c.find.ensures in
    let number : None ≡ name_number c.args.catalogue.now c.args.change.now.name = cc in
    subst (λ (o : Option ℕ). IfOk c.forecast_each.result (λ forecasts. AllZip (λ (t : Bor NamedTrace) f. IsForecastUnder c.args.model.now.words (changes_by c.args.change.now o) t.now f) c.args.traces.now forecasts.items)) number c.forecast_each.ensures

pub returns : goal.returns
returns g c =
    let is = c.in-Some.is in
    let found = c.find.ensures in
    let number : Some c.in-Some.name ≡ name_number c.args.catalogue.now c.args.change.now.name = cc in
    subst (λ (o : Option ℕ). IfOk c.forecast_each-2.result (λ forecasts. AllZip (λ (t : Bor NamedTrace) f. IsForecastUnder c.args.model.now.words (changes_by c.args.change.now o) t.now f) c.args.traces.now forecasts.items)) number c.forecast_each-2.ensures
