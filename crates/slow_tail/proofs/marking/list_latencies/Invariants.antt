use Rattle.std.proofs.Common.{◌≡◌, map, take}
use Rattle.std.specs.Borrow.{Bor}
use Rattle.trace_types.specs.declared.named_trace.NamedTrace.{NamedTrace}
use Rattle.slow_tail.proofs.marking.list_latencies.Given as goal

abbrev pub invariant-traces : goal.invariant-traces
invariant-traces l =
    l.latencies.items ≡ map (λ (t : Bor NamedTrace). t.now.latency) (take l.trace-index l.traces)
