-- What a segment is made of.
use Rattle.std.specs.Prelude.{ℕ, ℤ, List}
use Rattle.trace_types.specs.declared.segment.Segment.{Segment}

-- a segment's name: its task, its start event and its end event, each as its bytes
abbrev pub SegmentName : Type 0
SegmentName = List ℕ × List ℕ × List ℕ

-- the name of a segment
abbrev pub name_of : Segment → SegmentName
name_of s = (s.task, s.start_event, s.end_event)

-- its task
abbrev pub task_of : Segment → List ℕ
task_of s = s.task

-- where it starts, in nanoseconds
abbrev pub start_of : Segment → ℤ
start_of s = s.start

-- where it ends, in nanoseconds
abbrev pub end_of : Segment → ℤ
end_of s = s.end
