use Rattle.std.proofs.lemmas.Result.{err_from_is_err_and}
use Rattle.view_rows.specs.inner.ForecastRows.{forecast_rows, head_row}
use Rattle.view_rows.proofs.ForecastTextLemmas.{traces_of}
use Rattle.view_rows.proofs.forecast_printing.print_all.Goals as goal

pub returns-in_err-print_head : goal.returns-in_err-print_head
returns-in_err-print_head g c =
    let p = err_from_is_err_and c.from_residual.result c.from_residual.ensures.1 in
    rw (p.1, p.2) (c.calls_follow.ensures.goes_on _ _ _ _ c.print_head.new.buffer _ (head_row c.args.forecasts.now) (forecast_rows (traces_of c.args.traces.now) c.args.forecasts.now) c.in_err-print_head.ensures)

pub returns : goal.returns
returns g c = c.calls_follow.ensures.follow _ _ _ _ _ _ _ _ (head_row c.args.forecasts.now) (forecast_rows (traces_of c.args.traces.now) c.args.forecasts.now) c.in_ok-print_head.ensures c.print_each.ensures
