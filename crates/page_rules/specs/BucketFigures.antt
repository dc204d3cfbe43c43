-- The figures of traces in buckets by latency. Latencies, lengths and times are in nanoseconds. This
-- is the project's own.
use Rattle.std.specs.Prelude.{◌≡◌, ℕ, ◌==◌, Bool, List, length, map, filter, sum}
use Rattle.std.specs.List.{zip}
use Rattle.latency_ranks.specs.Buckets.{bucket_marks}
use Rattle.trace_rules.specs.Durations.{time_on}
use Rattle.trace_rules.specs.SlowTraces.{IsFloor}
use Rattle.trace_types.specs.Parts.{Parts}

-- of a list with an element for each trace those of the traces in a bucket, by the traces' latencies
abbrev pub in_bucket : {X : Type 0} → List ℕ → ℕ → List X → List X
in_bucket latencies bucket xs =
    map (λ x. x.1) (filter (λ x. x.0 == bucket) (zip (bucket_marks latencies) xs))

-- of the traces in a bucket how many there are, the sum of their latencies, the sum of the lengths
-- of their critical paths, and the least latency, 0 of none
pub record IsBucket (latencies lengths : List ℕ) (bucket count latency length_sum least : ℕ)
    : Type 0 where
  pub count_is : count ≡ length (in_bucket latencies bucket latencies)
  pub latency_is : latency ≡ sum (in_bucket latencies bucket latencies)
  pub lengths_are : length_sum ≡ sum (in_bucket latencies bucket lengths)
  pub least_is : IsFloor (in_bucket latencies bucket latencies) least

module _ {A S N T E : Type 0} (p : Parts A S N T E) where
  -- how long the segments with this name last on the critical paths of the traces in a bucket;
  -- `same` tells whether two names are one
  abbrev pub time_in : (N → N → Bool) → N → List ℕ → ℕ → List (List S) → ℕ
  time_in same name latencies bucket paths = time_on p same name (in_bucket latencies bucket paths)
