-- The clocks of the machines of a trace, the reference left out.
use Rattle.std.specs.Prelude.{◌≡◌, List, [], Bool, true, false, Option, Some, None, count_by}
use Rattle.std.specs.Prelude.{int_lt, length, not, pos}
use Rattle.trace_types.specs.declared.event.Event.{Event}
use Rattle.clock_offsets.specs.MachineClocks.{AreMachineClocks}
use Rattle.clock_offsets.specs.declared.machine_clock.Clock.{Clock}
use Rattle.clock_offsets.specs.declared.machine_clock.Clock.TheVariants.{Unreachable, Reached}
use Rattle.clock_offsets.specs.declared.machine_clock.MachineClock.{MachineClock}
use Rattle.segment_cut.specs.declared.trace_fault.TraceFault.{TraceFault}
use Rattle.segment_cut.specs.declared.trace_fault.TraceFault.TheVariants.{Memory, TooManyEvents}
use Rattle.segment_cut.specs.declared.trace_fault.TraceFault.TheVariants.{RepeatedEvent}
use Rattle.segment_cut.specs.declared.trace_fault.TraceFault.TheVariants.{RepeatedSend}
use Rattle.segment_cut.specs.declared.trace_fault.TraceFault.TheVariants.{RepeatedRecv, ClockRange}
use Rattle.trace_quality.specs.declared.clocks.ClockCounts.{ClockCounts}

-- a trace has offsets where it has no fault of its events or messages
abbrev pub has_offsets : Option TraceFault → Bool
has_offsets None = true
has_offsets (Some Memory) = false
has_offsets (Some (TooManyEvents count)) = false
has_offsets (Some (RepeatedEvent line)) = false
has_offsets (Some (RepeatedSend line)) = false
has_offsets (Some (RepeatedRecv line)) = false
has_offsets (Some (ClockRange line)) = true

-- the clock has an offset
abbrev pub is_reached : Clock → Bool
is_reached Unreachable = false
is_reached (Reached offset round_trip) = true

-- the delays to the machine and back contradict each other: together they are below 0
abbrev pub is_contradicted : Clock → Bool
is_contradicted Unreachable = false
is_contradicted (Reached offset round_trip) = int_lt round_trip (pos 0)

-- what a trace with this fault tells of the clocks of its machines: nothing where it has no offsets
pub record AreTraceClocks (events : List Event) (fault : Option TraceFault)
    (clocks : List MachineClock) : Type 0 where
  pub found : has_offsets fault ≡ true → AreMachineClocks events clocks
  pub none : has_offsets fault ≡ false → clocks ≡ []

-- of the clocks of a trace with this fault, how many there are, and how many have an offset, have
-- none, and contradict
pub record AreClocks (events : List Event) (fault : Option TraceFault) (c : ClockCounts)
    : Type 0 where
  pub clocks : List MachineClock
  pub told : AreTraceClocks events fault clocks
  pub all : c.all ≡ length clocks
  pub reached : c.reached ≡ count_by (λ (m : MachineClock). is_reached m.clock) clocks
  pub unreached : c.unreached ≡ count_by (λ (m : MachineClock). not (is_reached m.clock)) clocks
  pub contradicted : c.contradicted
      ≡ count_by (λ (m : MachineClock). is_contradicted m.clock) clocks
