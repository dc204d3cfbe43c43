use Rattle.std.proofs.Common.{◌≡◌, ◌∷◌, [], take}
use Rattle.std.specs.Borrow.{Bor}
use Rattle.std.specs.List.{flat_map}
use Rattle.trace_types.specs.declared.named_trace.NamedTrace.{NamedTrace}
use Rattle.trace_rows.specs.inner.ShownTraces.{PrintsShown}
use Rattle.trace_rows.proofs.PrintLemmas.{done}
use Rattle.trace_rows.proofs.trace_texts.print_in_turn.Given as goal

-- the parts so far
abbrev pub invariant-loop-place : goal.invariant-loop-place
invariant-loop-place g l = record {
  printed : PrintsShown g.S.Sink.written g.S.Sink.faults done l.fn.sink l.sink l.book (g.K.TraceTexts.part l.texts) (flat_map (λ (t : Bor NamedTrace). t.now ∷ []) (take l.place l.traces)) l.fn.buffer l.buffer;
  counted : g.S.Sink.faults l.sink ≡ g.S.Sink.faults l.fn.sink;
}
