-- A trace that reaches its offsets has no message twice.
use Rattle.std.proofs.Common.{◌≡◌, ℕ, List, Option, Some, None, true}
use Rattle.std.proofs.lemmas.Bool.{false≢true}
use Rattle.trace_types.specs.declared.event.Event.{Event}
use Rattle.trace_types.specs.Batch.{PlainTrace}
use Rattle.clock_offsets.specs.Faults.{AreMessagesOnce, IsClockFault}
use Rattle.clock_offsets.specs.declared.clock_fault.ClockFault.{ClockFault}
use Rattle.clock_offsets.specs.declared.clock_fault.ClockFault.TheVariants as clocks
use Rattle.segment_cut.specs.declared.trace_fault.TraceFault.{TraceFault}
use Rattle.segment_cut.specs.declared.trace_fault.TraceFault.TheVariants.{Memory, TooManyEvents, RepeatedEvent, RepeatedSend, RepeatedRecv, ClockRange}
use Rattle.trace_quality.specs.Clocks.{has_offsets}
use Rattle.trace_quality.specs.Facts.{IsJudged}

pub no_clock_fault : (events : List Event) (fault : ClockFault) → AreMessagesOnce events → IsClockFault events fault → ⊥
no_clock_fault events clocks.Memory once h = h
no_clock_fault events (clocks.RepeatedSend line) once h = once.0 h.0 h.1.0
no_clock_fault events (clocks.RepeatedRecv line) once h = once.1 h.1.0 h.1.1.0

pub once_of : (t : PlainTrace) (fault : Option TraceFault) (segments waits : ℕ) → IsJudged t fault segments waits → has_offsets fault ≡ true → AreMessagesOnce t.events
once_of t None segments waits h e = h.1.valid.messages_once
once_of t (Some Memory) segments waits h e = absurd (false≢true e)
once_of t (Some (TooManyEvents count)) segments waits h e = absurd (false≢true e)
once_of t (Some (RepeatedEvent line)) segments waits h e = absurd (false≢true e)
once_of t (Some (RepeatedSend line)) segments waits h e = absurd (false≢true e)
once_of t (Some (RepeatedRecv line)) segments waits h e = absurd (false≢true e)
once_of t (Some (ClockRange line)) segments waits h e = h.0.2
