use Rattle.std.proofs.Common.{◌≡◌, map, take}
use Rattle.latency_ranks.specs.Buckets.{bucket_of}
use Rattle.trace_rules.specs.SlowTraces.{with_indices}
use Rattle.latency_ranks.proofs.buckets.find_buckets.Given as goal

abbrev pub invariant-latencies : goal.invariant-latencies
invariant-latencies l = l.marks.items ≡ map (bucket_of l.latencies) (with_indices (take l.latency-index l.latencies))
