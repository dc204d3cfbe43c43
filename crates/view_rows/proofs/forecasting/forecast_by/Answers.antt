use Rattle.std.proofs.Common.{Result, IfOk, sym, ◌∙◌, subst}
use Rattle.std.specs.Borrow.{Bor}
use Rattle.std.specs.declared.alloc.AllocError.{AllocError}
use Rattle.rayon.proofs.ToStd.{slice-AllZip}
use Rattle.trace_types.proofs.ZipLemmas.{collected}
use Rattle.view_rows.specs.inner.NumberedForecasts.{IsForecastUnder}
use Rattle.refute_tests.specs.Clearing.{HaveNamesBelow}
use Rattle.trace_types.specs.declared.named_trace.NamedTrace.{NamedTrace}
use Rattle.trace_rules.specs.declared.forecast.Forecast.{Forecast}
use Rattle.view_rows.proofs.forecasting.forecast_by.Goals as goal

pub collect-requires-clause-ready : goal.collect-requires-clause-ready
collect-requires-clause-ready g c κs within =
    let base = c.map.ensures.base in
    let least = c.with_min_len.ensures.base in
    let slice = c.par_iter.ensures in
    rw (c.map.ensures.base, c.map.ensures.f, c.with_min_len.ensures.base, slice) (λ k d lt x e. ((subst (λ (t : Bor NamedTrace). HaveNamesBelow c.args.exclusions.now.names t.now) (sym e) (c.requires.below k d lt), c.requires.less), λ y p. tt))

pub returns : goal.returns
returns g c =
    let words = c.args.exclusions.now.words in
    let changes = c.args.changes.now in
    let traces = c.args.traces.now in
    let chain = rw (c.map.ensures.base, c.map.ensures.f, c.with_min_len.ensures.base) at c.in_ok-forecasts.ensures.1 in
    collected (λ (t : Bor NamedTrace) (f : Forecast). IsForecastUnder words changes t.now f) traces c.in_ok-forecasts.ensures.0 c.in_ok-forecasts.forecasts
    (slice-AllZip chain.0 traces (chain.1 ∙ c.par_iter.ensures) (λ (t : Bor NamedTrace) (y : Result Forecast AllocError). IfOk y (IsForecastUnder words changes t.now)) c.in_ok-forecasts.ensures.0 chain.2)
    c.in_ok-forecasts.ensures.2
