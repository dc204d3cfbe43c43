use Rattle.std.proofs.Common.{take}
use Rattle.std.specs.Borrow.{Bor}
use Rattle.std.specs.List.{flat_map}
use Rattle.trace_paths.specs.Tables.{IsTableOf}
use Rattle.trace_types.specs.declared.named_trace.NamedTrace.{NamedTrace}
use Rattle.latency_report.proofs.tables.tabulate_traces.Given as goal

abbrev pub invariant-traces : goal.invariant-traces
invariant-traces l =
    IsTableOf l.names (flat_map (λ (t : Bor NamedTrace). t.now.segments) (take l.trace-index l.traces)) l.table
