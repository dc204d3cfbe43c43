-- What traces tell of the clocks of machines.
use Rattle.std.specs.Prelude.{ℕ, ◌≡◌, ◌<◌, All, List, map}
use Rattle.std.specs.List.{AllZip, flat_map}
use Rattle.trace_types.specs.declared.event.Event.{Event}
use Rattle.trace_types.specs.Batch.{PlainTrace}
use Rattle.trace_types.specs.Events.{machine_at}
use Rattle.clock_offsets.specs.declared.machine_clock.Clock.{Clock}
use Rattle.clock_offsets.specs.declared.machine_clock.MachineClock.{MachineClock}
use Rattle.event_table.specs.Numbers.{text_under}
use Rattle.trace_quality.specs.Clocks.{AreTraceClocks}
use Rattle.trace_quality.specs.Facts.{IsFacts}
use Rattle.trace_quality.specs.declared.trace_facts.TraceFacts.{TraceFacts}
use Rattle.machine_quality.specs.declared.numbered_clock.NumberedClock.{NumberedClock}

-- what a trace tells of the clock of a machine, by its name
pub record NamedClock : Type 0 where
  pub machine : List ℕ
  pub clock : Clock

-- a clock with the name of its machine, which has the first of these events that is at its index
abbrev pub named_clock : List Event → MachineClock → NamedClock
named_clock events c = record { machine = machine_at events c.first; clock = c.clock }

-- this is what the trace tells of its machines but the reference, in the order of their first
-- events: nothing where it has a fault of its events or messages
pub record IsTold (t : PlainTrace) (told : List NamedClock) : Type 0 where
  pub facts : TraceFacts
  pub known : IsFacts t facts
  pub clocks : List MachineClock
  pub are : AreTraceClocks t.events facts.verdict.fault clocks
  pub named : told ≡ map (named_clock t.events) clocks

-- this is what the traces tell, one after another
pub record AreTold (traces : List PlainTrace) (told : List NamedClock) : Type 0 where
  pub each : List (List NamedClock)
  pub by : AllZip IsTold traces each
  pub joined : told ≡ flat_map (λ (one : List NamedClock). one) each

-- clocks by the numbers of their machines, with these machines' names
abbrev pub clock_under : List (List ℕ) → NumberedClock → NamedClock
clock_under machines c = record { machine = text_under machines c.machine; clock = c.clock }

abbrev pub clocks_under : List (List ℕ) → List NumberedClock → List NamedClock
clocks_under machines clocks = map (clock_under machines) clocks

-- the numbers are those of so many machines
abbrev pub AreBelow : ℕ → List NumberedClock → Type 0
AreBelow count clocks = All (λ (c : NumberedClock). c.machine < count) clocks
