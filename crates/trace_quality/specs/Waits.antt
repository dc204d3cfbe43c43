-- Segments that begin with a send and end with a receipt: from the one to the other the task waits,
-- for what the segment hides.
use Rattle.std.specs.Prelude.{ℕ, ◌&&◌, List, Bool, count_by, is_some}
use Rattle.std.specs.List.{list_any}
use Rattle.std.specs.Str.{bytes_eq}
use Rattle.trace_types.specs.declared.event.Event.{Event}
use Rattle.trace_types.specs.declared.segment.Segment.{Segment}

-- the event has this task and this name
abbrev pub is_named : (task name : List ℕ) → Event → Bool
is_named task name e = bytes_eq e.task task && bytes_eq e.event name

-- an event of this task and name sends a message, and one receives a message
abbrev pub sends_at : List Event → (task name : List ℕ) → Bool
sends_at events task name = list_any (λ e. is_named task name e && is_some e.send) events

abbrev pub receives_at : List Event → (task name : List ℕ) → Bool
receives_at events task name = list_any (λ e. is_named task name e && is_some e.recv) events

-- the segment begins with a send and ends with a receipt
abbrev pub is_wait : List Event → Segment → Bool
is_wait events s = sends_at events s.task s.start_event && receives_at events s.task s.end_event

-- how many of the segments are waits
abbrev pub count_waits : List Event → List Segment → ℕ
count_waits events segments = count_by (is_wait events) segments
