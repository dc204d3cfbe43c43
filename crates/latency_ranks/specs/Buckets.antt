-- Traces in buckets by latency. The order is that of slow traces: of equal latencies the one with the
-- greater index comes after. This is the project's own. Latencies are in nanoseconds.
use Rattle.std.specs.Prelude.{ℕ, ◌-◌, ◌*◌, ◌/◌, min, max, List, length, map, count_by}
use Rattle.trace_rules.specs.SlowTraces.{comes_after, with_indices}

-- how many buckets so many traces have: as many as traces, but at least 1 and at most 20
abbrev pub buckets_of : ℕ → ℕ
buckets_of traces = max 1 (min 20 traces)

-- how many traces come after one with this latency and index
abbrev pub later_traces : List ℕ → ℕ × ℕ → ℕ
later_traces latencies x = count_by (comes_after x) (with_indices latencies)

-- the bucket of the trace with this latency and index: with k buckets of n traces those after which
-- fewer than n / k come are in the last, k - 1, those after which fewer than 2 * n / k come in the
-- one before it, and so on
abbrev pub bucket_of : List ℕ → ℕ × ℕ → ℕ
bucket_of latencies x =
    buckets_of (length latencies) - 1
    - later_traces latencies x * buckets_of (length latencies) / length latencies

-- the bucket of each trace, by the traces' latencies, in order
abbrev pub bucket_marks : List ℕ → List ℕ
bucket_marks latencies = map (bucket_of latencies) (with_indices latencies)
