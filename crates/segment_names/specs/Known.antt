-- What a catalogue knows: names and tasks in the order of first sight. The number of each is its
-- place in its list.
use Rattle.std.specs.Prelude.{ℕ, List, ◌++◌, Bool, ◌&&◌, Option, map, position, flat_map}
use Rattle.std.specs.Str.{bytes_eq}
use Rattle.trace_types.specs.declared.segment.Segment.{Segment}
use Rattle.trace_types.specs.declared.trace.Trace.{Trace}
use Rattle.trace_types.specs.Firsts.{firsts_of}
use Rattle.trace_types.specs.Segments.{SegmentName, name_of, task_of}

-- names, each its task, its start event and its end event, and tasks
pub record Known : Type 0 where
  pub names : List SegmentName
  pub tasks : List (List ℕ)

-- whether two names are one: all three texts are equal
abbrev pub same_name : SegmentName → SegmentName → Bool
same_name a b = bytes_eq a.0 b.0 && (bytes_eq a.1 b.1 && bytes_eq a.2 b.2)

-- the number of a name, or None where it is not known
abbrev pub name_number : Known → SegmentName → Option ℕ
name_number known name = position (same_name name) known.names

-- the number of a task, or None where it is not known
abbrev pub task_number : Known → List ℕ → Option ℕ
task_number known task = position (bytes_eq task) known.tasks

-- what is known after these segments: new names and tasks stand last, by first sight
abbrev pub with_segments : Known → List Segment → Known
with_segments known segments = record {
  names = firsts_of same_name (known.names ++ map name_of segments);
  tasks = firsts_of bytes_eq (known.tasks ++ map task_of segments);
}

-- what is known after the segments of these traces
abbrev pub with_traces : Known → List Trace → Known
with_traces known traces = with_segments known (flat_map (λ (t : Trace). t.segments) traces)
