use Rattle.std.proofs.Common.{◌≡◌, take}
use Rattle.trace_rules.specs.SlowTraces.{with_indices}
use Rattle.latency_ranks.proofs.places.list_places.Given as goal

abbrev pub invariant-latencies : goal.invariant-latencies
invariant-latencies l = l.places.items ≡ with_indices (take l.latency-index l.latencies)
