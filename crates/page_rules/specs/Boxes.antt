-- The boxes of the model: segments' names, or tasks where there are too many names. This is the
-- project's own.
use Rattle.std.specs.Prelude.{ℕ, nat_le, Bool, List, [], length, map, filter, Contains}
use Rattle.std.specs.Prelude.{if◌then◌else◌}
use Rattle.std.specs.Cmp.Lexicographic.{slice_cmp}
use Rattle.std.specs.List.{list_any}
use Rattle.std.specs.Ordering.{nat_cmp, ordering_then}
use Rattle.std.specs.declared.cmp.Ordering.{Ordering}
use Rattle.trace_rules.specs.Durations.{has_name}
use Rattle.trace_types.specs.Listing.{ListsExactly}
use Rattle.trace_types.specs.NameOrder.{name_cmp}
use Rattle.trace_types.specs.Parts.{Parts}
use Rattle.trace_types.specs.Segments.{SegmentName}

-- a box of one name, or of all names of a task that have no box of their own
pub data Box : Type 0 where
  OfTask : List ℕ → Box
  OfName : SegmentName → Box

-- the task of a box, its name, whose events are empty for a task, and its kind: a task comes before
-- names
abbrev pub box_task : Box → List ℕ
box_task (OfTask task) = task
box_task (OfName name) = name.0

abbrev pub box_name : Box → SegmentName
box_name (OfTask task) = (task, [], [])
box_name (OfName name) = name

abbrev pub box_kind : Box → ℕ
box_kind (OfTask task) = 0
box_kind (OfName name) = 1

-- the order of boxes: by task, the box of a task before those of its names, and these in name order
abbrev pub box_cmp : Box → Box → Ordering
box_cmp v w = ordering_then (slice_cmp nat_cmp (box_task v) (box_task w))
    (ordering_then (nat_cmp (box_kind v) (box_kind w)) (name_cmp (box_name v) (box_name w)))

-- of names those with a segment on one of the critical paths; `same` tells whether two names are
-- one
abbrev pub names_on_paths : {A S N T E : Type 0} → Parts A S N T E → (N → N → Bool)
    → List (List S) → List N → List N
names_on_paths p same paths names =
    filter (λ name. list_any (has_name p same name) paths) names

-- the names that have a box of their own: all where they are at most 40, else those on critical
-- paths where these are at most 24, else none
abbrev pub boxed_names : (names on_paths : List SegmentName) → List SegmentName
boxed_names names on_paths =
    if nat_le (length names) 40 then names
    else if nat_le (length on_paths) 24 then on_paths else []

-- the box of a name, where these names have boxes of their own; `same` tells whether two names are
-- one
abbrev pub box_of : (SegmentName → SegmentName → Bool) → List SegmentName → SegmentName → Box
box_of same boxed name = if list_any (same name) boxed then OfName name else OfTask name.0

-- exactly the boxes of these names, each once, in order
abbrev pub AreBoxes : (SegmentName → SegmentName → Bool) → (names boxed : List SegmentName)
    → List Box → Type 0
AreBoxes same names boxed boxes =
    ListsExactly box_cmp (Contains (map (box_of same boxed) names)) boxes
