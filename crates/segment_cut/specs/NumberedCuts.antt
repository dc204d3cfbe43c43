-- A valid trace whose segments are numbers of the tables of a batch's texts.
use Rattle.std.specs.Prelude.{ℕ, ◌<◌, List, length, map}
use Rattle.trace_types.specs.declared.segment.Segment.{Segment}
use Rattle.trace_types.specs.declared.trace.Trace.{Trace}
use Rattle.event_table.specs.Numbers.{text_under}
use Rattle.event_table.specs.Texts.{TextLists}
use Rattle.segment_cut.specs.declared.cut_segment.CutSegment.{CutSegment}
use Rattle.segment_cut.specs.Elements.{element_in}

-- the segment that the numbers stand for
abbrev pub segment_under : TextLists → CutSegment → Segment
segment_under texts s = record {
  task = text_under texts.tasks s.task;
  start_event = text_under texts.names s.start_event;
  end_event = text_under texts.names s.end_event;
  start = s.start;
  end = s.end;
  element = element_in (text_under texts.names s.start_event);
  ordered = s.ordered;
}

-- the segments that the numbers stand for
abbrev pub segments_under : TextLists → List CutSegment → List Segment
segments_under texts segments = map (segment_under texts) segments

-- the numbers of the segment are those of texts
pub record HasTexts (texts : TextLists) (s : CutSegment) : Type 0 where
  pub task : s.task < length texts.tasks
  pub start_event : s.start_event < length texts.names
  pub end_event : s.end_event < length texts.names

-- the texts of a batch, the segments of a trace by their numbers, and the trace
pub record NumberedCut : Type 0 where
  pub texts : TextLists
  pub segments : List CutSegment
  pub trace : Trace
