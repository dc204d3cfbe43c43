-- The adjusted times of a trace, in nanoseconds since 1970 by the reference's clock.
use Rattle.std.specs.Prelude.{◌≡◌, ℕ, ◌*◌, ◌<◌, ℤ, pos, neg_ℤ, ◌≤ℤ◌, List, length, slice_index_or}
use Rattle.trace_types.specs.declared.event.Event.{Event}
use Rattle.trace_types.specs.Events.{machine_at, time_at, line_at}
use Rattle.trace_types.specs.Times.{latest_time}
use Rattle.clock_offsets.specs.Offsets.{IsOffset, adjusted_time}

-- t is the adjusted time of the event at k: its own time less the offset of its machine
abbrev pub HasAdjustedTime : List Event → ℕ → ℤ → Type 0
HasAdjustedTime events k t = (o : ℤ) × IsOffset events (machine_at events k) o
    × (t ≡ adjusted_time (time_at events k) o)

-- the adjusted time at k in a list of them
abbrev pub adjusted_at : List ℤ → ℕ → ℤ
adjusted_at times k = slice_index_or times k (pos 0)

-- times are the adjusted times of the events, by index
pub record AreAdjustedTimes (events : List Event) (times : List ℤ) : Type 0 where
  pub each : length times ≡ length events
  pub value : (k : ℕ) → k < length events → HasAdjustedTime events k (adjusted_at times k)

-- t is in the range of adjusted times: not below minus the latest time of an event, and not above
-- twice that time
abbrev pub IsInClockRange : ℤ → Type 0
IsInClockRange t = (neg_ℤ (pos latest_time) ≤ℤ t) × (t ≤ℤ pos (2 * latest_time))

-- the event at k has an adjusted time in that range
abbrev pub HasTimeInRange : List Event → ℕ → Type 0
HasTimeInRange events k = (t : ℤ) × HasAdjustedTime events k t × IsInClockRange t

-- the event at k has an adjusted time outside that range
abbrev pub HasTimeOutOfRange : List Event → ℕ → Type 0
HasTimeOutOfRange events k = (t : ℤ) × HasAdjustedTime events k t × (IsInClockRange t → ⊥)

-- the line is that of the first event whose adjusted time is out of range
abbrev pub IsLineOutOfRange : List Event → ℕ → Type 0
IsLineOutOfRange events line = (k : ℕ) × (k < length events) × HasTimeOutOfRange events k
    × ((j : ℕ) → j < k → HasTimeInRange events j) × (line ≡ line_at events k)
