-- Which traces are shown as loads, by their ranks by latency. The order is that of slow traces: of
-- equal latencies the one with the greater index comes after. Ranks and indices count from 0. This
-- is the project's own.
use Rattle.std.specs.Prelude.{◌≡◌, ℕ, ◌-◌, ◌/◌, ◌==◌, List, [], ◌∷◌, codes, count_by}
use Rattle.std.specs.Prelude.{if◌then◌else◌, slice_get, Some}
use Rattle.page_rules.specs.declared.pick.Pick.{Pick}
use Rattle.page_rules.specs.declared.pick.Pick.TheVariants.{Median, Slow, Slowest}
use Rattle.trace_rules.specs.SlowTraces.{comes_after, slow_count, with_indices}
use Rattle.trace_types.specs.Firsts.{firsts_of}

-- the rank of the trace with this latency and index: how many traces come before it
abbrev pub latency_rank : List ℕ → ℕ × ℕ → ℕ
latency_rank latencies x = count_by (λ y. comes_after y x) (with_indices latencies)

-- the trace at this index has this rank
pub record IsOfRank (latencies : List ℕ) (rank index : ℕ) : Type 0 where
  pub latency : ℕ
  pub stands : slice_get latencies index ≡ Some latency
  pub ranked : latency_rank latencies (latency, index) ≡ rank

-- the rank of a pick among so many traces
abbrev pub pick_rank : ℕ → Pick → ℕ
pick_rank traces Median = (traces - 1) / 2
pick_rank traces Slow = traces - slow_count traces
pick_rank traces Slowest = traces - 1

-- the word of a pick: the slow ones are those from the 95th percentile on
abbrev pub pick_word : Pick → List ℕ
pick_word Median = codes "median"
pick_word Slow = codes "p95"
pick_word Slowest = codes "slowest"

-- which of so many traces are shown: the three picks, of those with one rank the first
abbrev pub picks_of : ℕ → List Pick
picks_of traces =
    if traces == 0 then []
    else firsts_of (λ x y. pick_rank traces x == pick_rank traces y)
    (Median ∷ Slow ∷ Slowest ∷ [])
