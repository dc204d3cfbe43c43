-- The boxes of the graph.
use Rattle.std.specs.Prelude.{ℕ, ◌+◌, ◌==◌, ◌&&◌, ◌++◌, ◌≤◌, List, [], ◌∷◌, Bool, bytes_eq, codes}
use Rattle.std.specs.Prelude.{if◌then◌else◌, length, min, nat_lt, not, sum_by}
use Rattle.std.specs.List.{list_any}
use Rattle.graph_layers.specs.declared.place.Place.{Place}
use Rattle.graph_layers.specs.Places.{box_width, place_at}
use Rattle.markup.specs.Parts.{Fixed, Name, Number, Share, Time, parts_text}
use Rattle.page_rows.specs.declared.model_rows.BoxRow.{BoxRow}
use Rattle.page_rows.specs.declared.report_rows.SegmentRow.{SegmentRow}
use Rattle.page_rows.specs.Pages.{PageLists}
use Rattle.picture_parts.specs.Names.{arrow, title_text}
use Rattle.picture_parts.specs.Places.{part_of, whole_of}
use Rattle.trace_types.specs.Segments.{SegmentName}

-- a box of all names of a task, which have no box of their own
abbrev pub is_task : BoxRow → Bool
is_task box = length box.name.2 == 0

-- two names are equal, text by text
abbrev pub same_name : SegmentName → SegmentName → Bool
same_name a b = bytes_eq a.0 b.0 && bytes_eq a.1 b.1 && bytes_eq a.2 b.2

-- a name has a box of its own
abbrev pub has_box : List BoxRow → SegmentName → Bool
has_box boxes name = list_any (λ (box : BoxRow). same_name box.name name) boxes

-- a name is in a box: it is that of the box, or of its task and has no box of its own
abbrev pub is_in : List BoxRow → BoxRow → SegmentName → Bool
is_in boxes box name = if is_task box then bytes_eq box.name.0 name.0 && not (has_box boxes name)
    else same_name box.name name

-- the time of a segment on critical paths, if it is in a box
abbrev pub time_in : List BoxRow → BoxRow → SegmentRow → ℕ
time_in boxes box segment = if is_in boxes box segment.name then segment.on_path_sum else 0

-- the time of a box on critical paths, at most all of it
abbrev pub box_time : PageLists → BoxRow → ℕ
box_time p box = min p.report.critical (sum_by (time_in p.boxes box) p.segments)

-- how wide the line is that shows its share of critical paths
abbrev pub share_width : PageLists → BoxRow → ℕ
share_width p box = part_of 148 (box_time p box) p.report.critical

-- the name of a box in a title
abbrev pub name_title : BoxRow → List ℕ
name_title box =
    if is_task box then parts_text (Name box.name.0 ∷ []) else title_text box.name

-- the time of a box and its share
unfoldable pub share_text : PageLists → BoxRow → List ℕ
share_text p box = parts_text (Fixed (codes ": on critical paths ") ∷ Time (box_time p box)
    ∷ Fixed (codes ", ") ∷ Share (box_time p box) (whole_of (box_time p box) p.report.critical)
    ∷ Fixed (codes "</title>") ∷ [])

-- what the title of a box says
unfoldable pub box_title : PageLists → BoxRow → List ℕ
box_title p box = name_title box ++ share_text p box

-- the shape of a box, and the line for its share
unfoldable pub shape_text : (width : ℕ) → Place → List ℕ
shape_text width place = parts_text
    (Fixed (codes "<rect class=\"bx\" x=\"") ∷ Number place.x ∷ Fixed (codes "\" y=\"")
    ∷ Number place.y
    ∷ Fixed (codes "\" width=\"150\" height=\"34\" rx=\"3\"/><rect class=\"path\" x=\"")
    ∷ Number (place.x + 1) ∷ Fixed (codes "\" y=\"") ∷ Number (place.y + 30)
    ∷ Fixed (codes "\" width=\"") ∷ Number width ∷ Fixed (codes "\" height=\"3\"/><svg x=\"")
    ∷ Number place.x ∷ Fixed (codes "\" y=\"") ∷ Number place.y
    ∷ Fixed (codes "\" width=\"150\" height=\"34\"><text class=\"gt\" x=\"5\" y=\"14\">") ∷ [])

-- the label of a task, cut at the edges of its box
unfoldable pub task_label : SegmentName → List ℕ
task_label name = parts_text (Name name.0
    ∷ Fixed (codes "</text><text class=\"ge\" x=\"5\" y=\"26\">all segments</text></svg></g>") ∷ [])

-- the label of a name: its task, and below it the events
unfoldable pub name_label : SegmentName → List ℕ
name_label name = parts_text
    (Name name.0 ∷ Fixed (codes "</text><text class=\"ge\" x=\"5\" y=\"26\">") ∷ Name name.1
    ∷ Fixed (codes " " ++ arrow ++ codes " ") ∷ Name name.2
    ∷ Fixed (codes "</text></svg></g>") ∷ [])

abbrev pub label_text : BoxRow → List ℕ
label_text box = if is_task box then task_label box.name else name_label box.name

-- a box of the graph
unfoldable pub box_text : PageLists → List Place → BoxRow → List ℕ
box_text p places box = codes "<g><title>" ++ box_title p box
    ++ shape_text (share_width p box) (place_at places box.number) ++ label_text box

abbrev pub box_if : PageLists → List Place → BoxRow → List ℕ
box_if p places box = if nat_lt box.number (length p.boxes) then box_text p places box else []

-- the line for the share of a box is within the box
abbrev pub SharesAreWithin : Type 0
SharesAreWithin = (p : PageLists) (box : BoxRow) (x : ℕ)
    → x + 1 + share_width p box ≤ x + box_width
