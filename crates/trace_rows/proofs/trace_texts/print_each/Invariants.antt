use Rattle.std.proofs.Common.{◌≡◌, ◌≤◌, ◌-◌, length, take}
use Rattle.trace_rows.specs.inner.ShownTraces.{PrintsShown}
use Rattle.trace_rows.proofs.ChunkLemmas.{lent}
use Rattle.trace_rows.proofs.PrintLemmas.{done}
use Rattle.trace_rows.proofs.trace_texts.print_each.Given as goal

-- the parts of the chunks so far
abbrev pub invariant-chunks : goal.invariant-chunks
invariant-chunks g l = record {
  within : l.at ≤ length l.traces;
  printed : PrintsShown g.S.Sink.written g.S.Sink.faults done l.fn.sink l.sink l.book (g.K.TraceTexts.part l.texts) (lent (take l.at l.traces)) l.fn.buffer l.buffer;
  counted : g.S.Sink.faults l.sink ≡ g.S.Sink.faults l.fn.sink;
}

abbrev pub decreases-chunks : goal.decreases-chunks
decreases-chunks g l = length l.traces - l.at
