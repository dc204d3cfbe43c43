use Rattle.std.proofs.Common.{◌≡◌, map, take}
use Rattle.trace_rules.specs.SlowTraces.{with_indices}
use Rattle.slow_tail.proofs.SlowLemmas.{not_before}
use Rattle.slow_tail.proofs.marking.mark_from.Given as goal

abbrev pub invariant-latencies : goal.invariant-latencies
invariant-latencies l =
    l.marks.items ≡ map (not_before l.first) (with_indices (take l.latency-index l.latencies))
