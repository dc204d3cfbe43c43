-- A trace in which every time is a thousand times what it was, as where microseconds become
-- nanoseconds.
use Rattle.std.specs.Prelude.{◌≡◌, ℕ, ◌*◌, ◌<◌, ◌≤◌, pos, ◌*ℤ◌, List, length, All}
use Rattle.std.specs.List.{AllZip}
use Rattle.trace_types.specs.declared.event.Event.{Event}
use Rattle.trace_types.specs.declared.segment.Segment.{Segment}
use Rattle.trace_types.specs.declared.trace.Trace.{Trace}
use Rattle.trace_types.specs.Segments.{name_of}
use Rattle.trace_types.specs.Times.{latest_time_in_microseconds}
use Rattle.trace_types.specs.Events.{machines_of, machine_at, sends_of, receipts_of, tasks_of}
use Rattle.trace_types.specs.Events.{names_of, time_at}

-- all events are of one machine
abbrev pub AreOfOneMachine : List Event → Type 0
AreOfOneMachine events = (j k : ℕ) → j < length events → k < length events
    → machine_at events j ≡ machine_at events k

-- no event is later than the start of the year 2100, in microseconds since 1970
abbrev pub AreTimelyMicroseconds : List Event → Type 0
AreTimelyMicroseconds events = All (λ (e : Event). e.time ≤ latest_time_in_microseconds) events

-- the scaled events are the events, each at a thousand times its time
pub record AreThousandfold (events scaled : List Event) : Type 0 where
  pub machines : machines_of scaled ≡ machines_of events
  pub tasks : tasks_of scaled ≡ tasks_of events
  pub names : names_of scaled ≡ names_of events
  pub sends : sends_of scaled ≡ sends_of events
  pub receipts : receipts_of scaled ≡ receipts_of events
  pub times : (k : ℕ) → k < length events → time_at scaled k ≡ 1000 * time_at events k

-- the segment r is the segment s, from and to a thousand times its times
pub record IsThousandfold (s r : Segment) : Type 0 where
  pub name : name_of r ≡ name_of s
  pub element : r.element ≡ s.element
  pub start : r.start ≡ pos 1000 *ℤ s.start
  pub end : r.end ≡ pos 1000 *ℤ s.end

-- the trace u has the segments of t in their order, and its latency, all times a thousandfold
pub record IsTraceThousandfold (t u : Trace) : Type 0 where
  pub segments : AllZip IsThousandfold t.segments u.segments
  pub latency : u.latency ≡ 1000 * t.latency
