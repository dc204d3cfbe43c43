use Rattle.std.proofs.Common.{◌≡◌, take}
use Rattle.text_rows.specs.TextsOfParts.{PrintsParts}
use Rattle.text_rows.proofs.part_list.print_parts.Given as goal

-- the parts so far
abbrev pub invariant-loop-item : goal.invariant-loop-item
invariant-loop-item g l = record {
  printed : PrintsParts (g.K.Parts.is_text l.parts) (take l.item-index l.items) (g.S.Sink.written l.fn.sink) (g.S.Sink.written l.sink) l.fn.buffer l.buffer;
  counted : g.S.Sink.faults l.sink ≡ g.S.Sink.faults l.fn.sink;
}
