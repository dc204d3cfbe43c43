-- Why a trace has no offsets.
use Rattle.std.specs.Prelude.{List}
use Rattle.trace_types.specs.declared.event.Event.{Event}
use Rattle.trace_types.specs.Events.{sends_of, receipts_of}
use Rattle.trace_types.specs.Repeats.{AreDistinct, IsLineOfRepeat}
use Rattle.clock_offsets.specs.declared.clock_fault.ClockFault.{ClockFault}
use Rattle.clock_offsets.specs.declared.clock_fault.ClockFault.TheVariants.{Memory, RepeatedSend}
use Rattle.clock_offsets.specs.declared.clock_fault.ClockFault.TheVariants.{RepeatedRecv}

-- no message is sent twice, and none is received twice
abbrev pub AreMessagesOnce : List Event → Type 0
AreMessagesOnce events = AreDistinct (sends_of events) × AreDistinct (receipts_of events)

-- the fault of the events is the first that holds: a message that is sent twice, then one that is
-- received twice, each at the first such line; out of memory is no fault of events
abbrev pub IsClockFault : List Event → ClockFault → Type 0
IsClockFault events Memory = ⊥
IsClockFault events (RepeatedSend line) = IsLineOfRepeat events (sends_of events) line
IsClockFault events (RepeatedRecv line) = AreDistinct (sends_of events)
    × IsLineOfRepeat events (receipts_of events) line
