use Rattle.std.proofs.Common.{◌≡◌, take}
use Rattle.view_rows.proofs.ReportPrintLemmas.{PrintsEach, done}
use Rattle.view_rows.proofs.named_rows.print_each.Given as goal

-- the rows so far
abbrev pub invariant-loop-item : goal.invariant-loop-item
invariant-loop-item g l = record {
  printed : PrintsEach g.S.Sink.written g.S.Sink.faults (g.K.NamedRows.text l.rows) l.items done l.fn.sink l.sink (take l.item-index l.items) l.fn.buffer l.buffer;
  counted : g.S.Sink.faults l.sink ≡ g.S.Sink.faults l.fn.sink;
}
