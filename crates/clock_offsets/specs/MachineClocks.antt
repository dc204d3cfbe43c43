-- What the messages of a trace tell of the clocks of its machines.
use Rattle.std.specs.Prelude.{◌≡◌, ◌≢◌, ℕ, ◌<◌, ℤ, ◌+ℤ◌, List, All, Contains, length, map}
use Rattle.std.specs.List.Sorted.{IsStrictlyIncreasing}
use Rattle.trace_types.specs.declared.event.Event.{Event}
use Rattle.trace_types.specs.Events.{machine_at}
use Rattle.clock_offsets.specs.Depths.{IsUnreachable}
use Rattle.clock_offsets.specs.Messages.{IsLeastDelay}
use Rattle.clock_offsets.specs.Offsets.{IsOffset, IsParent}
use Rattle.clock_offsets.specs.declared.machine_clock.Clock.{Clock}
use Rattle.clock_offsets.specs.declared.machine_clock.Clock.TheVariants.{Unreachable, Reached}
use Rattle.clock_offsets.specs.declared.machine_clock.MachineClock.{MachineClock}

-- r is the least delay from m to n and the least delay back, together: below 0 the delays
-- contradict each other
abbrev pub IsRoundTrip : List Event → List ℕ → List ℕ → ℤ → Type 0
IsRoundTrip events m n r =
    (f : ℤ) × (g : ℤ) × IsLeastDelay events m n f × IsLeastDelay events n m g × (r ≡ f +ℤ g)

-- o is the offset of m, and r the round trip between its parent and it
pub record IsReached (events : List Event) (m : List ℕ) (o r : ℤ) : Type 0 where
  pub depth : ℕ
  pub parent : List ℕ
  pub child : IsParent events depth parent m
  pub offset : IsOffset events m o
  pub round : IsRoundTrip events parent m r

-- what is told of the clock of m, which is not the reference: no path of pairings goes to it, or
-- its offset and the round trip between its parent and it
abbrev pub IsClock : List Event → List ℕ → Clock → Type 0
IsClock events m Unreachable = IsUnreachable events m
IsClock events m (Reached o r) = IsReached events m o r

-- the event at k is the first of a machine, which is not the reference
pub record IsFirstOfOther (events : List Event) (k : ℕ) : Type 0 where
  pub within : k < length events
  pub later : 0 < k
  pub first : (j : ℕ) → j < k → machine_at events j ≢ machine_at events k

-- the clock is that of the machine of this first event
pub record IsMachineClock (events : List Event) (c : MachineClock) : Type 0 where
  pub first : IsFirstOfOther events c.first
  pub clock : IsClock events (machine_at events c.first) c.clock

-- the index of the first event of each
abbrev pub firsts_in : List MachineClock → List ℕ
firsts_in clocks = map (λ (c : MachineClock). c.first) clocks

-- these are the clocks of all machines but the reference, each once, in the order of first events
pub record AreMachineClocks (events : List Event) (clocks : List MachineClock) : Type 0 where
  pub each : All (IsMachineClock events) clocks
  pub rising : IsStrictlyIncreasing (firsts_in clocks)
  pub all : (k : ℕ) → IsFirstOfOther events k → Contains (firsts_in clocks) k
