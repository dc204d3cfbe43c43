-- Messages between numbered machines, and the least one-way delay of each way.
use Rattle.std.specs.Prelude.{◌≡◌, ℕ, ◌<◌, ℤ, pos, ◌-ℤ◌, ◌≤ℤ◌, Option, Some, None, List, length}
use Rattle.std.specs.Prelude.{slice_index_or}
use Rattle.std.specs.BTreeMap.{BTreeMap, get, IsOrdered}
use Rattle.std.specs.Ordering.{nat_cmp, ordering_then}
use Rattle.std.specs.declared.cmp.Ordering.{Ordering}
use Rattle.trace_types.specs.declared.event.Event.{Event}
use Rattle.trace_types.specs.Events.{machine_at}
use Rattle.clock_offsets.specs.declared.message.Message.{Message}
use Rattle.clock_offsets.specs.Messages.{IsMessage, IsOneWayDelay}
use Rattle.clock_offsets.specs.inner.Links.{IsNumber}

-- the event e stands at index k
abbrev pub IsEventAt : List Event → ℕ → Event → Type 0
IsEventAt events k e = (k < length events) × (slice_index_or events k e ≡ e)

-- no event sends what the event r receives on another machine
abbrev pub HasNoSender : List Event → Event → Type 0
HasNoSender events r = (k : ℕ) (s : Event) → IsEventAt events k s → IsMessage s r → ⊥

-- the message x is the one that the event r, at index k, receives from another machine
pub record IsReceived (events : List Event) (numbers : List ℕ) (k : ℕ) (r : Event)
    (x : Message) : Type 0 where
  pub place : ℕ
  pub sender : Event
  pub sends : IsEventAt events place sender
  pub message : IsMessage sender r
  pub from : x.from ≡ slice_index_or numbers place 0
  pub to : x.to ≡ slice_index_or numbers k 0
  pub delay : x.delay ≡ pos r.time -ℤ pos sender.time
  pub only : (j : ℕ) (s : Event) → IsEventAt events j s → IsMessage s r → j ≡ place

-- d is the one-way delay of a message from machine v to machine w
abbrev pub HasDelay : List Event → List ℕ → ℕ → ℕ → ℤ → Type 0
HasDelay events numbers v w d = IsNumber numbers v × IsNumber numbers w
    × IsOneWayDelay events (machine_at events v) (machine_at events w) d

-- ways from a machine to a machine, by the first and then by the second
abbrev pub way_cmp : ℕ × ℕ → ℕ × ℕ → Ordering
way_cmp a b = ordering_then (nat_cmp a.0 b.0) (nat_cmp a.1 b.1)

-- what a map has for the way from v to w
abbrev pub least_in : BTreeMap (ℕ × ℕ) ℤ → ℕ → ℕ → Option ℤ
least_in least v w = get way_cmp least (v, w)

-- the map has the least d with D v w d, for each way from v to w that has one
pub record AreLeast (D : ℕ → ℕ → ℤ → Type 0) (least : BTreeMap (ℕ × ℕ) ℤ) : Type 0 where
  pub ordered : IsOrdered way_cmp least
  pub some : (v w : ℕ) (d : ℤ) → least_in least v w ≡ Some d → D v w d × ((e : ℤ) → D v w e
      → d ≤ℤ e)
  pub none : (v w : ℕ) (d : ℤ) → least_in least v w ≡ None → D v w d → ⊥

-- the map has the least one-way delay of each way
abbrev pub AreLeastDelays : List Event → List ℕ → BTreeMap (ℕ × ℕ) ℤ → Type 0
AreLeastDelays events numbers least = AreLeast (HasDelay events numbers) least
