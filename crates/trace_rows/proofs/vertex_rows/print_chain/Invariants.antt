use Rattle.std.proofs.Common.{take}
use Rattle.std.specs.List.{flat_map}
use Rattle.text_rows.specs.Printing.{PrintsText}
use Rattle.trace_rows.proofs.PrintLemmas.{done}
use Rattle.trace_rows.proofs.vertex_rows.print_chain.Given as goal

-- the rows so far
abbrev pub invariant-loop-vertex : goal.invariant-loop-vertex
invariant-loop-vertex g l = record {
  printed : PrintsText g.S.Sink.written g.S.Sink.faults done l.fn.sink l.sink l.fn.buffer l.buffer (flat_map (g.K.VertexRows.text l.rows) (take l.vertex-index l.vertices));
}
