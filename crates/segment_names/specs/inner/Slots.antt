-- What a namer remembers of the names that it has looked up.
use Rattle.std.specs.Prelude.{◌≡◌, ◌≢◌, ℕ, Some, All, List, slice_get, is_some, length}
use Rattle.trace_types.specs.declared.segment.Segment.{Segment}
use Rattle.trace_types.specs.Segments.{name_of}
use Rattle.event_table.specs.Texts.{TextLists}
use Rattle.segment_cut.specs.NumberedCuts.{segment_under}
use Rattle.segment_cut.specs.declared.cut_segment.CutSegment.{CutSegment}
use Rattle.segment_names.specs.declared.slot.Slot.{Slot}
use Rattle.segment_names.specs.Known.{Known}

-- the name number of an empty slot
abbrev pub no_name : ℕ
no_name = 512

-- the segment has the numbers of the slot
pub record IsOf (slot : Slot) (segment : CutSegment) : Type 0 where
  pub task : slot.task ≡ segment.task
  pub start_event : slot.start_event ≡ segment.start_event
  pub end_event : slot.end_event ≡ segment.end_event

-- the slot has the catalogue's numbers for the name and the task of the segment, and tells whether
-- it has an element
pub record IsKnownAs (known : Known) (segment : Segment) (slot : Slot) : Type 0 where
  pub name : slice_get known.names slot.name ≡ Some (name_of segment)
  pub task : slice_get known.tasks slot.known_task ≡ Some segment.task
  pub element : slot.has_element ≡ is_some segment.element

-- the slot is empty, or right for each segment with its numbers
abbrev pub IsRight : Known → TextLists → Slot → Type 0
IsRight known texts slot = slot.name ≢ no_name → (segment : CutSegment) → IsOf slot segment
    → IsKnownAs known (segment_under texts segment) slot

-- there are 1,024 slots, and all are right
pub record AreSlots (known : Known) (texts : TextLists) (slots : List Slot) : Type 0 where
  pub count : length slots ≡ 1024
  pub right : All (IsRight known texts) slots
