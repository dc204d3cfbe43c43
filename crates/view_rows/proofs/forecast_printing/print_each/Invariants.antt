use Rattle.view_rows.proofs.ForecastPrintLemmas.{SoFar}
use Rattle.view_rows.proofs.forecast_printing.print_each.Given as goal

-- the rows so far
abbrev pub invariant-loop-place : goal.invariant-loop-place
invariant-loop-place g l = record {
  so_far : SoFar g.S.Sink.written g.S.Sink.faults l.traces l.forecasts l.place l.fn.sink l.sink l.fn.buffer l.buffer;
}
