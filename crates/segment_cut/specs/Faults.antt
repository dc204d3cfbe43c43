-- Why a trace is refused.
use Rattle.std.specs.Prelude.{◌≡◌, ℕ, ◌<◌, List, length, codes}
use Rattle.trace_types.specs.declared.event.Event.{Event}
use Rattle.trace_types.specs.Events.{named_events, sends_of, receipts_of}
use Rattle.trace_types.specs.Repeats.{AreDistinct, IsLineOfRepeat}
use Rattle.clock_offsets.specs.declared.clock_fault.ClockFault.{ClockFault}
use Rattle.clock_offsets.specs.declared.clock_fault.ClockFault.TheVariants.{Memory as NoMemory}
use Rattle.clock_offsets.specs.declared.clock_fault.ClockFault.TheVariants.{
  RepeatedSend as SentTwice,
}
use Rattle.clock_offsets.specs.declared.clock_fault.ClockFault.TheVariants.{
  RepeatedRecv as ReceivedTwice,
}
use Rattle.clock_offsets.specs.Faults.{AreMessagesOnce}
use Rattle.segment_cut.specs.declared.trace_fault.TraceFault.{TraceFault}
use Rattle.segment_cut.specs.declared.trace_fault.TraceFault.TheVariants.{Memory, TooManyEvents}
use Rattle.segment_cut.specs.declared.trace_fault.TraceFault.TheVariants.{RepeatedEvent}
use Rattle.segment_cut.specs.declared.trace_fault.TraceFault.TheVariants.{RepeatedSend}
use Rattle.segment_cut.specs.declared.trace_fault.TraceFault.TheVariants.{RepeatedRecv, ClockRange}
use Rattle.segment_cut.specs.AdjustedTimes.{IsLineOutOfRange}
use Rattle.segment_cut.specs.Cutting.{most_events, HasFewEvents}

-- the fault of the events is the first that holds: too many of them, an event that a task has
-- twice, a message that is sent twice, one that is received twice, an adjusted time out of range,
-- each at the first such line; out of memory is no fault of events
abbrev pub IsTraceFault : List Event → TraceFault → Type 0
IsTraceFault events Memory = ⊥
IsTraceFault events (TooManyEvents count) = (count ≡ length events) × (most_events < count)
IsTraceFault events (RepeatedEvent line) = HasFewEvents events
    × IsLineOfRepeat events (named_events events) line
IsTraceFault events (RepeatedSend line) = HasFewEvents events × AreDistinct (named_events events)
    × IsLineOfRepeat events (sends_of events) line
IsTraceFault events (RepeatedRecv line) = HasFewEvents events × AreDistinct (named_events events)
    × AreDistinct (sends_of events) × IsLineOfRepeat events (receipts_of events) line
IsTraceFault events (ClockRange line) = HasFewEvents events × AreDistinct (named_events events)
    × AreMessagesOnce events
    × IsLineOutOfRange events line

-- the fault of a trace that has no offsets
abbrev pub fault_of_clock : ClockFault → TraceFault
fault_of_clock NoMemory = Memory
fault_of_clock (SentTwice line) = RepeatedSend line
fault_of_clock (ReceivedTwice line) = RepeatedRecv line

-- the reason as it is printed
abbrev pub fault_reason : TraceFault → List ℕ
fault_reason Memory = codes "out of memory"
fault_reason (TooManyEvents count) = codes "too many events"
fault_reason (RepeatedEvent line) = codes "repeated event"
fault_reason (RepeatedSend line) = codes "repeated send"
fault_reason (RepeatedRecv line) = codes "repeated receive"
fault_reason (ClockRange line) = codes "clock out of range"

-- the number that is printed with it: how many events, or which line; 0 for out of memory
abbrev pub fault_number : TraceFault → ℕ
fault_number Memory = 0
fault_number (TooManyEvents count) = count
fault_number (RepeatedEvent line) = line
fault_number (RepeatedSend line) = line
fault_number (RepeatedRecv line) = line
fault_number (ClockRange line) = line
