-- The valid trace that the events of a request are cut into.
use Rattle.std.specs.Prelude.{◌≡◌, ℕ, ◌/◌, ◌≤◌, ℤ, pos, ◌-ℤ◌, ◌≤ℤ◌, List, length, All, Contains}
use Rattle.std.specs.List.{AllZip}
use Rattle.trace_types.specs.declared.event.Event.{Event}
use Rattle.trace_types.specs.declared.segment.Segment.{Segment}
use Rattle.trace_types.specs.declared.trace.Trace.{Trace}
use Rattle.clock_offsets.specs.Faults.{AreMessagesOnce}
use Rattle.trace_types.specs.Repeats.{AreDistinct}
use Rattle.trace_types.specs.Events.{task_at, event_name_at, time_at, named_events}
use Rattle.segment_cut.specs.AdjustedTimes.{AreAdjustedTimes, adjusted_at, IsInClockRange}
use Rattle.segment_cut.specs.Neighbours.{AreAllNeighbours}
use Rattle.segment_cut.specs.Elements.{HasElement}

-- how many events a trace may have
abbrev pub most_events : ℕ
most_events = 4096

-- the trace has no more
abbrev pub HasFewEvents : List Event → Type 0
HasFewEvents events = length events ≤ most_events

-- given the adjusted times of the events, no fault holds of the events
pub record IsValid (events : List Event) (times : List ℤ) : Type 0 where
  pub short : HasFewEvents events
  pub named_once : AreDistinct (named_events events)
  pub messages_once : AreMessagesOnce events
  pub in_range : All IsInClockRange times

-- a day of 86,400 seconds, in nanoseconds
abbrev pub nanoseconds_per_day : ℕ
nanoseconds_per_day = 86400000000000

-- n is the greatest of the times less the least
pub record IsSpan (times : List ℤ) (n : ℕ) : Type 0 where
  pub greatest : ℤ
  pub least : ℤ
  pub some_greatest : Contains times greatest
  pub none_greater : All (λ t. t ≤ℤ greatest) times
  pub some_least : Contains times least
  pub none_less : All (λ t. least ≤ℤ t) times
  pub span : pos n ≡ greatest -ℤ least

-- the segment is that of the events at the two indices
pub record IsSegment (events : List Event) (times : List ℤ) (places : ℕ × ℕ)
    (s : Segment) : Type 0 where
  pub task : s.task ≡ task_at events places.0
  pub start_event : s.start_event ≡ event_name_at events places.0
  pub end_event : s.end_event ≡ event_name_at events places.1
  pub start : s.start ≡ adjusted_at times places.0
  pub end : s.end ≡ adjusted_at times places.1
  pub element : HasElement (event_name_at events places.0) s.element

-- the segments are exactly those of the events, in order
pub record AreSegments (events : List Event) (times : List ℤ)
    (segments : List Segment) : Type 0 where
  pub pairs : List (ℕ × ℕ)
  pub neighbours : AreAllNeighbours events times pairs
  pub each : AllZip (IsSegment events times) pairs segments

-- the events of a request are valid, and the trace is what they are cut into
pub record IsCut (request : List ℕ) (events : List Event) (trace : Trace) : Type 0 where
  pub times : List ℤ
  pub adjusted : AreAdjustedTimes events times
  pub valid : IsValid events times
  pub named : trace.request ≡ request
  pub day : trace.day ≡ time_at events 0 / nanoseconds_per_day
  pub latency : IsSpan times trace.latency
  pub segments : AreSegments events times trace.segments
