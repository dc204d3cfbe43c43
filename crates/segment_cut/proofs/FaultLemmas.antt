-- The faults that the parts of the cutting find are those of the trace.
use Rattle.std.proofs.Common.{◌≢◌, List, refl}
use Rattle.trace_types.specs.declared.event.Event.{Event}
use Rattle.trace_types.specs.Events.{named_events}
use Rattle.trace_types.specs.Repeats.{AreDistinct}
use Rattle.clock_offsets.specs.declared.clock_fault.ClockFault.{ClockFault}
use Rattle.clock_offsets.specs.declared.clock_fault.ClockFault.TheVariants.{Memory as NoMemory, RepeatedSend as SentTwice, RepeatedRecv as ReceivedTwice}
use Rattle.clock_offsets.specs.Faults.{IsClockFault}
use Rattle.segment_cut.specs.declared.trace_fault.TraceFault.TheVariants.{Memory}
use Rattle.segment_cut.specs.Cutting.{HasFewEvents}
use Rattle.segment_cut.specs.Faults.{IsTraceFault, fault_of_clock}

pub clock_fault : (events : List Event) (fault : ClockFault) → HasFewEvents events → AreDistinct (named_events events) → (fault ≢ NoMemory → IsClockFault events fault) → fault_of_clock fault ≢ Memory → IsTraceFault events (fault_of_clock fault)
clock_fault events NoMemory s n h other = absurd (other refl)
clock_fault events (SentTwice line) s n h other = (s, n, h (λ e. cc))
clock_fault events (ReceivedTwice line) s n h other = let f = h (λ e. cc) in (s, n, f.0, f.1)
