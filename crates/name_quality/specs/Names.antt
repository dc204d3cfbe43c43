-- The segment names of the valid traces of a batch, and their tasks.
use Rattle.std.specs.Prelude.{ℕ, ◌≡◌, ◌⊎◌, ◌<◌, ◌==◌, ◌++◌, List, [], All, codes, filter, length}
use Rattle.std.specs.Prelude.{map, slice_index_or}
use Rattle.std.specs.List.{AllZip, count_by, flat_map, list_any}
use Rattle.std.specs.Str.{bytes_eq}
use Rattle.alike_groups.specs.declared.group.Group.{Group}
use Rattle.event_table.specs.Numbers.{text_under}
use Rattle.event_table.specs.Texts.{TextLists}
use Rattle.name_patterns.specs.Patterns.{pattern_of}
use Rattle.segment_cut.specs.Cutting.{IsCut}
use Rattle.segment_cut.specs.Faults.{IsTraceFault}
use Rattle.segment_cut.specs.declared.cut_segment.CutSegment.{CutSegment}
use Rattle.segment_cut.specs.declared.trace_fault.TraceFault.{TraceFault}
use Rattle.segment_names.specs.Known.{same_name}
use Rattle.trace_types.specs.declared.trace.Trace.{Trace}
use Rattle.trace_types.specs.Batch.{PlainTrace}
use Rattle.trace_types.specs.Firsts.{firsts_of}
use Rattle.trace_types.specs.Segments.{SegmentName, name_of}

-- these are the names of the segments of a valid trace; of a refused one there is none
abbrev pub HasNames : PlainTrace → List SegmentName → Type 0
HasNames t names =
    ((trace : Trace) × IsCut t.request t.events trace × (names ≡ map name_of trace.segments))
    ⊎ ((fault : TraceFault) × IsTraceFault t.events fault × (names ≡ []))

-- the numbers of the name of a segment
abbrev pub numbers_of : CutSegment → ℕ × ℕ × ℕ
numbers_of s = (s.task, s.start_event, s.end_event)

-- the name that numbers stand for
abbrev pub name_under : TextLists → ℕ × ℕ × ℕ → SegmentName
name_under texts k =
    (text_under texts.tasks k.0, text_under texts.names k.1, text_under texts.names k.2)

-- the names that they stand for
abbrev pub names_under : TextLists → List (ℕ × ℕ × ℕ) → List SegmentName
names_under texts ks = map (name_under texts) ks

-- the numbers are those of texts
pub record HasTexts (texts : TextLists) (k : ℕ × ℕ × ℕ) : Type 0 where
  pub task : k.0 < length texts.tasks
  pub start_event : k.1 < length texts.names
  pub end_event : k.2 < length texts.names

-- the names of all segments, trace after trace
abbrev pub all_names : List (List SegmentName) → List SegmentName
all_names named = flat_map (λ names. names) named

-- the numbers of the names of the segments of traces, trace after trace
pub record AreNames (texts : TextLists) (traces : List PlainTrace) (ks : List (ℕ × ℕ × ℕ))
    : Type 0 where
  pub named : List (List SegmentName)
  pub each : AllZip HasNames traces named
  pub known : All (HasTexts texts) ks
  pub are : names_under texts ks ≡ all_names named

-- the tasks of names
abbrev pub tasks_in : List SegmentName → List (List ℕ)
tasks_in names = map (λ (n : SegmentName). n.0) names

-- the different ones, in the order in which a catalogue without limits numbers them
abbrev pub different_names : List SegmentName → List SegmentName
different_names names = firsts_of same_name names

abbrev pub different_tasks : List SegmentName → List (List ℕ)
different_tasks names = firsts_of bytes_eq (tasks_in names)

-- in how many traces, of which each has these names, a name occurs
abbrev pub count_traces : List (List SegmentName) → SegmentName → ℕ
count_traces named n = count_by (λ names. list_any (same_name n) names) named

-- the different names that one trace alone has, in the order of first sight
abbrev pub names_alone : List (List SegmentName) → List SegmentName
names_alone named = filter (λ n. count_traces named n == 1) (different_names (all_names named))

-- the first name of a group, and its task
abbrev pub first_of : List SegmentName → Group → SegmentName
first_of names g = slice_index_or names g.first ([], [], [])

abbrev pub first_task_of : List SegmentName → Group → List ℕ
first_task_of names g = (first_of names g).0

-- a name as it is printed
unfoldable pub name_label : SegmentName → List ℕ
name_label n = n.0 ++ codes ": " ++ n.1 ++ codes " -> " ++ n.2

-- the pattern of a name: of its task and its two events, printed likewise
abbrev pub name_pattern : SegmentName → List ℕ
name_pattern n = name_label (pattern_of n.0, pattern_of n.1, pattern_of n.2)
