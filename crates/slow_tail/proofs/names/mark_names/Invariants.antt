use Rattle.std.proofs.Common.{take}
use Rattle.std.specs.Borrow.{Bor}
use Rattle.std.specs.List.{flat_map}
use Rattle.trace_types.specs.declared.named_trace.NamedTrace.{NamedTrace}
use Rattle.slow_tail.specs.inner.Marks.{AreMarksOf}
use Rattle.slow_tail.proofs.names.mark_names.Given as goal

abbrev pub invariant-traces : goal.invariant-traces
invariant-traces l =
    AreMarksOf l.names (flat_map (λ (t : Bor NamedTrace). t.now.segments) (take l.trace-index l.traces)) l.marked.items
