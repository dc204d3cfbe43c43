use Rattle.std.proofs.Common.{Bor, length, map, take}
use Rattle.trace_types.specs.declared.named_trace.NamedTrace.{NamedTrace}
use Rattle.task_sharings.specs.inner.Tables.{IsTableSoFar}
use Rattle.task_sharings.proofs.table.share_all.Given as goal

abbrev pub invariant-traces : goal.invariant-traces
invariant-traces l = IsTableSoFar (length l.traces) l.tasks (take l.index (map (λ (t : Bor NamedTrace). t.now) l.traces)) l.figures.items
