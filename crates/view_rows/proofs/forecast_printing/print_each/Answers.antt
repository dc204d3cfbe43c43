use Rattle.std.proofs.Common.{◌<◌, ℕ, length, sym, subst}
use Rattle.std.proofs.lemmas.List.{get_or_default}
use Rattle.std.proofs.lemmas.Result.{err_from_is_err_and}
use Rattle.view_rows.proofs.ForecastPrintLemmas.{so_next, so_cut}
use Rattle.view_rows.proofs.forecast_printing.print_each.Goals as goal

pub returns-in_err-print_forecast : goal.returns-in_err-print_forecast
returns-in_err-print_forecast g c =
    let p = err_from_is_err_and c.from_residual.result c.from_residual.ensures.1 in
    let lt = c.loop-place-test.true in
    let within : c.loop-place.place < length c.args.forecasts.now = subst (λ (n : ℕ). c.loop-place.place < n) (sym c.requires) lt in
    rw (p.1, p.2) (so_cut g.S.Sink.written g.S.Sink.faults c.args.traces.now c.args.forecasts.now c.loop-place.place c.index-traces-place.result _ _ _ _ _ _ _ _ c.calls_follow.ensures.follow c.calls_follow.ensures.goes_on lt c.requires c.index-traces-place.is (get_or_default c.args.forecasts.now c.loop-place.place _ _ within) c.loop-place.invariant.so_far c.in_err-print_forecast.ensures)

pub loop-place-preserved : goal.loop-place-preserved
loop-place-preserved g c =
    let lt = c.loop-place-test.true in
    let within : c.loop-place.place < length c.args.forecasts.now = subst (λ (n : ℕ). c.loop-place.place < n) (sym c.requires) lt in
    record { so_far = so_next g.S.Sink.written g.S.Sink.faults c.args.traces.now c.args.forecasts.now c.loop-place.place c.index-traces-place.result _ _ _ _ _ _ _ c.calls_follow.ensures.follow lt c.requires c.index-traces-place.is (get_or_default c.args.forecasts.now c.loop-place.place _ _ within) c.loop-place.invariant.so_far c.in_ok-print_forecast.ensures }
