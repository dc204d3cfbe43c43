-- The list of a trace's segments.
use Rattle.std.specs.Prelude.{◌≤◌, ℤ, List, length}
use Rattle.trace_types.specs.declared.event.Event.{Event}
use Rattle.trace_types.specs.declared.segment.Segment.{Segment}
use Rattle.trace_types.specs.SegmentLists.{NamesDiffer, TasksStandTogether, JoinInTasks}
use Rattle.trace_types.specs.Segments.{name_of, task_of, start_of, end_of}
use Rattle.segment_cut.specs.Cutting.{AreSegments}

-- the segments are those of the events, and a trace may have them
pub record AreListed (events : List Event) (times : List ℤ) (segments : List Segment) : Type 0 where
  pub segments_are : AreSegments events times segments
  pub names_differ : NamesDiffer name_of segments
  pub together : TasksStandTogether task_of segments
  pub joined : JoinInTasks task_of start_of end_of segments
  pub few : length segments ≤ length events
