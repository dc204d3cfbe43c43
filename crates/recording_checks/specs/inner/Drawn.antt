-- Segments that tests draw, without elements.
use Rattle.std.specs.Prelude.{◌≡◌, ◌<◌, ◌≤◌, [], List, AllPairs}
use Rattle.std.specs.List.{filter_map}
use Rattle.trace_types.specs.NamedSegments.{number_of_task, number_of_element, named_start, named_end}
use Rattle.trace_types.specs.SegmentLists.{JoinInTasks}
use Rattle.trace_types.specs.declared.named_segment.NamedSegment.{NamedSegment}

-- t may stand behind s
pub record Follows (s t : NamedSegment) : Type 0 where
  pub name : s.name < t.name
  pub task : s.task ≤ t.task
  pub join : s.task ≡ t.task → s.end ≡ t.start

-- names rise, tasks never fall, neighbours of one task join, and no segment has an element
pub record AreDrawn (segments : List NamedSegment) : Type 0 where
  pub names : AllPairs (λ (s t : NamedSegment). s.name < t.name) segments
  pub tasks : AllPairs (λ (s t : NamedSegment). s.task ≤ t.task) segments
  pub joined : JoinInTasks number_of_task named_start named_end segments
  pub plain : filter_map number_of_element segments ≡ []
