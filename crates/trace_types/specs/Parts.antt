-- How a trace is read, whatever its type is and whatever its names are: texts or numbers.
use Rattle.std.specs.Prelude.{ℕ, ℤ, List, Option, flat_map}
use Rattle.trace_types.specs.declared.segment.Segment.{Segment}
use Rattle.trace_types.specs.declared.trace.Trace.{Trace}
use Rattle.trace_types.specs.declared.named_segment.NamedSegment.{NamedSegment}
use Rattle.trace_types.specs.declared.named_trace.NamedTrace.{NamedTrace}
use Rattle.trace_types.specs.NamedSegments.{number_of_name, number_of_task, number_of_element}
use Rattle.trace_types.specs.NamedSegments.{named_start, named_end}
use Rattle.trace_types.specs.Segments.{SegmentName, name_of, task_of, start_of, end_of}

-- of a trace of type A its segments of type S and its own grace; of a segment its name, its task,
-- its element, its start and its end. Times and the grace are in nanoseconds.
pub record Parts (A S N T E : Type 0) : Type 0 where
  pub segments : A → List S
  pub grace : A → ℕ
  pub name : S → N
  pub task : S → T
  pub element : S → Option E
  pub start : S → ℤ
  pub end : S → ℤ

-- a trace whose names are texts; its grace is 0
abbrev pub by_text : Parts Trace Segment SegmentName (List ℕ) (List ℕ)
by_text = record {
  segments = λ t. t.segments;
  grace = λ t. 0;
  name = name_of;
  task = task_of;
  element = λ s. s.element;
  start = start_of;
  end = end_of;
}

-- a trace whose names, tasks and elements are numbers
abbrev pub by_number : Parts NamedTrace NamedSegment ℕ ℕ ℕ
by_number = record {
  segments = λ t. t.segments;
  grace = λ t. t.grace;
  name = number_of_name;
  task = number_of_task;
  element = number_of_element;
  start = named_start;
  end = named_end;
}

-- the segments of all traces, one trace after another
abbrev pub segments_of : {A S N T E : Type 0} → Parts A S N T E → List A → List S
segments_of p traces = flat_map p.segments traces
