-- Which two events of a trace make a segment, and in which order the segments are listed.
use Rattle.std.specs.Prelude.{◌≡◌, ◌≢◌, ◌⊎◌, ℕ, ◌<◌, ◌≤◌, ℤ, ◌<ℤ◌, List, length, All, AllPairs}
use Rattle.std.specs.Prelude.{Contains}
use Rattle.trace_types.specs.declared.event.Event.{Event}
use Rattle.trace_types.specs.Events.{task_at}
use Rattle.segment_cut.specs.AdjustedTimes.{adjusted_at}

-- the event at i is earlier than the event at j: by adjusted time, and by line where the times are
-- equal
abbrev pub IsEarlierTime : List ℤ → ℕ → ℕ → Type 0
IsEarlierTime times i j = (adjusted_at times i <ℤ adjusted_at times j)
    ⊎ ((adjusted_at times i ≡ adjusted_at times j) × (i < j))

-- the events at i and j make a segment: they are of one task, and no event of that task is between
-- them
pub record AreNeighbours (events : List Event) (times : List ℤ) (i j : ℕ) : Type 0 where
  pub first : i < length events
  pub second : j < length events
  pub task : task_at events i ≡ task_at events j
  pub before : IsEarlierTime times i j
  pub between : (k : ℕ) → k < length events → task_at events k ≡ task_at events i
      → IsEarlierTime times i k → IsEarlierTime times k j → ⊥

-- the task of the event at i is seen before that of the event at j: some event of the one is before
-- all of the other
abbrev pub IsTaskBefore : List Event → ℕ → ℕ → Type 0
IsTaskBefore events i j = (f : ℕ) × (f < length events) × (task_at events f ≡ task_at events i)
    × ((k : ℕ) → k ≤ f → task_at events k ≢ task_at events j)

-- a segment from the event at i is listed before one from the event at j: by the first line of the
-- task, and then by the order in the task
abbrev pub IsListedBefore : List Event → List ℤ → ℕ → ℕ → Type 0
IsListedBefore events times i j =
    IsTaskBefore events i j ⊎ ((task_at events i ≡ task_at events j) × IsEarlierTime times i j)

-- pairs are the indices of the two events of each segment, in the order in which segments are
-- listed
pub record AreAllNeighbours (events : List Event) (times : List ℤ)
    (pairs : List (ℕ × ℕ)) : Type 0 where
  pub right : All (λ p. AreNeighbours events times p.0 p.1) pairs
  pub all : (i j : ℕ) → AreNeighbours events times i j → Contains pairs (i, j)
  pub order : AllPairs (λ p q. IsListedBefore events times p.0 q.0) pairs
