use Rattle.std.proofs.Common.{◌≡◌, take}
use Rattle.std.specs.List.{flat_map}
use Rattle.text_rows.specs.Printing.{Prints}
use Rattle.text_rows.proofs.row_list.print_rows.Given as goal

-- the texts so far
abbrev pub invariant-loop-item : goal.invariant-loop-item
invariant-loop-item g l = record {
  prints : Prints (g.S.Sink.written l.fn.sink) (g.S.Sink.written l.sink) l.fn.buffer l.buffer (flat_map (g.K.Rows.text l.rows) (take l.item-index l.items));
  counted : g.S.Sink.faults l.sink ≡ g.S.Sink.faults l.fn.sink;
}
