use Rattle.std.proofs.Common.{◌≡◌, take}
use Rattle.std.specs.List.{flat_map}
use Rattle.text_rows.specs.Printing.{Prints}
use Rattle.evidence_text.specs.Naming.{fields_of, task_row}
use Rattle.evidence_text.proofs.task_printing.print_task_rows.Given as goal

-- the texts so far
abbrev pub invariant-rows : goal.invariant-rows
invariant-rows g l = record {
  prints : Prints (g.S.Sink.written l.fn.sink) (g.S.Sink.written l.sink) l.fn.buffer l.buffer (flat_map (task_row (fields_of l.naming) l.kind) (take l.row-index l.rows));
  counted : g.S.Sink.faults l.sink ≡ g.S.Sink.faults l.fn.sink;
}
