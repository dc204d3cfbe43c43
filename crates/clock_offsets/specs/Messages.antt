-- Messages between machines, and what they tell of the machines' clocks. Times are in nanoseconds.
use Rattle.std.specs.Prelude.{◌≡◌, ◌≢◌, ℕ, ℤ, pos, ◌+ℤ◌, ◌-ℤ◌, ◌≤ℤ◌, Some, List, Contains}
use Rattle.trace_types.specs.declared.event.Event.{Event}

-- the first event sends a message that the second receives on another machine
abbrev pub IsMessage : Event → Event → Type 0
IsMessage s r = (text : List ℕ) × (s.send ≡ Some text) × (r.recv ≡ Some text)
    × (s.machine ≢ r.machine)

-- d is the one-way delay of a message from machine m to machine n: receive time minus send time,
-- each by its own machine's clock; it may be negative
pub record IsOneWayDelay (events : List Event) (m n : List ℕ) (d : ℤ) : Type 0 where
  pub sender : Event
  pub receiver : Event
  pub sends : Contains events sender
  pub receives : Contains events receiver
  pub message : IsMessage sender receiver
  pub from : sender.machine ≡ m
  pub to : receiver.machine ≡ n
  pub delay : d ≡ pos receiver.time -ℤ pos sender.time

-- d is the least one-way delay of a message from m to n
abbrev pub IsLeastDelay : List Event → List ℕ → List ℕ → ℤ → Type 0
IsLeastDelay events m n d =
    IsOneWayDelay events m n d × ((e : ℤ) → IsOneWayDelay events m n e → d ≤ℤ e)

-- m and n are paired: messages go in both directions
abbrev pub ArePaired : List Event → List ℕ → List ℕ → Type 0
ArePaired events m n = (d : ℤ) × (e : ℤ) × IsOneWayDelay events m n d × IsOneWayDelay events n m e

-- h is half of d, rounded towards minus infinity
abbrev pub IsHalf : ℤ → ℤ → Type 0
IsHalf d h = ((h +ℤ h) ≤ℤ d) × (d ≤ℤ ((h +ℤ h) +ℤ pos 1))

-- o is the offset of n relative to m: half of the least delay from m to n minus the least delay
-- from n to m
abbrev pub IsRelativeOffset : List Event → List ℕ → List ℕ → ℤ → Type 0
IsRelativeOffset events m n o =
    (f : ℤ) × (g : ℤ) × IsLeastDelay events m n f × IsLeastDelay events n m g × IsHalf (f -ℤ g) o
