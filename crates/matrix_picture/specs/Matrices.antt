-- The matrix of all pairs of boxes.
use Rattle.std.specs.Prelude.{ℕ, ◌+◌, ◌-◌, ◌*◌, ◌/◌, ◌<◌, ◌≤◌, ◌==◌, ◌&&◌, ◌++◌, List, [], ◌∷◌}
use Rattle.std.specs.Prelude.{Bool, codes, if◌then◌else◌, length, nat_le, nat_lt}
use Rattle.std.specs.List.{flat_map}
use Rattle.markup.specs.Parts.{Fixed, Number, parts_text}
use Rattle.page_rows.specs.declared.model_rows.BetweenRow.{BetweenRow}
use Rattle.page_rows.specs.declared.model_rows.BoxRow.{BoxRow}
use Rattle.page_rows.specs.Pages.{PageLists}
use Rattle.picture_parts.specs.Names.{isolated_text, title_text}
use Rattle.matrix_picture.specs.declared.mark.Mark.{Mark}
use Rattle.matrix_picture.specs.declared.mark.Mark.TheVariants.{Full, Part as PartMark, Exclusive}
use Rattle.matrix_picture.specs.declared.mark.Mark.TheVariants.{Overlap, Nothing}
use Rattle.matrix_picture.specs.Frames.{pipe_frames}
use Rattle.matrix_picture.specs.Marks.{mark_class, mark_edge, mark_of}
use Rattle.matrix_picture.specs.Places.{cell_edge, margin, mark_place, matrix_height}
use Rattle.matrix_picture.specs.Places.{matrix_width}
use Rattle.matrix_picture.specs.Texts.{matrix_end, matrix_start}

-- the label of a box: its task, and its last event where it is a segment; the events of a task are
-- empty
unfoldable pub box_label : BoxRow → List ℕ
box_label box = if length box.name.2 == 0 then isolated_text box.name.0
    else isolated_text box.name.0 ++ codes ": " ++ isolated_text box.name.2

-- what a title says of a box: its task, and both events where it is a segment
abbrev pub box_title : BoxRow → List ℕ
box_title box = if length box.name.2 == 0 then isolated_text box.name.0
    else title_text box.name

-- the name of the box with this number
abbrev pub name_if : ℕ → BoxRow → List ℕ
name_if number box = if box.number == number then box_title box else []

abbrev pub box_name : List BoxRow → ℕ → List ℕ
box_name boxes number = flat_map (name_if number) boxes

-- the square of a mark
unfoldable pub square_text : Mark → (cell : ℕ) → BetweenRow → List ℕ
square_text mark cell row = parts_text
    (Fixed (codes "<rect class=\"") ∷ Fixed (mark_class mark) ∷ Fixed (codes "\" x=\"")
    ∷ Number (margin + mark_place row.second cell (mark_edge mark cell row))
    ∷ Fixed (codes "\" y=\"") ∷ Number (mark_place row.first cell (mark_edge mark cell row))
    ∷ Fixed (codes "\" width=\"") ∷ Number (mark_edge mark cell row)
    ∷ Fixed (codes "\" height=\"") ∷ Number (mark_edge mark cell row)
    ∷ Fixed (codes "\"><title>") ∷ [])

-- what a title says behind its two names
unfoldable pub counts_text : BetweenRow → List ℕ
counts_text row = parts_text
    (Fixed (codes ": before in ") ∷ Number row.before ∷ Fixed (codes " of ") ∷ Number row.both
    ∷ Fixed (codes " pairs, exclusive in ") ∷ Number row.exclusive ∷ Fixed (codes "</title></rect>")
    ∷ [])

-- a mark with its title
unfoldable pub mark_text : Mark → (cell : ℕ) → List BoxRow → BetweenRow → List ℕ
mark_text mark cell boxes row = square_text mark cell row ++ box_name boxes row.first ++ codes " / "
    ++ box_name boxes row.second ++ counts_text row

-- the cell of two boxes, if both are in the matrix and there is something to show
abbrev pub is_within : (count : ℕ) → BetweenRow → Bool
is_within count row = nat_lt row.first count && nat_lt row.second count

abbrev pub shown_text : Mark → (cell : ℕ) → List BoxRow → BetweenRow → List ℕ
shown_text Nothing cell boxes row = []
shown_text Full cell boxes row = mark_text Full cell boxes row
shown_text PartMark cell boxes row = mark_text PartMark cell boxes row
shown_text Exclusive cell boxes row = mark_text Exclusive cell boxes row
shown_text Overlap cell boxes row = mark_text Overlap cell boxes row

unfoldable pub cell_text : List BoxRow → BetweenRow → List ℕ
cell_text boxes row =
    if is_within (length boxes) row
    then shown_text (mark_of row) (cell_edge (length boxes)) boxes row else []

-- how the label at the left of the box with this number begins, in a row with this edge
unfoldable pub row_start : (edge number : ℕ) → List ℕ
row_start edge number = parts_text
    (Fixed (codes "<svg x=\"0\" y=\"") ∷ Number (number * edge)
    ∷ Fixed (codes "\" width=\"216\" height=\"") ∷ Number edge
    ∷ Fixed (codes "\"><text class=\"ml\" x=\"212\" y=\"") ∷ Number (edge - 3)
    ∷ Fixed (codes "\">") ∷ [])

-- how it ends behind the name: the number, from 1
unfoldable pub row_end : (number : ℕ) → List ℕ
row_end number = parts_text
    (Fixed (codes " ") ∷ Number (number + 1) ∷ Fixed (codes "</text></svg>") ∷ [])

-- the label of the box with this number below so many rows: its number, from 1
unfoldable pub lower_label : (edge count number : ℕ) → List ℕ
lower_label edge count number = parts_text
    (Fixed (codes "<text class=\"mc\" x=\"") ∷ Number (margin + number * edge + edge / 2)
    ∷ Fixed (codes "\" y=\"") ∷ Number (count * edge + 11) ∷ Fixed (codes "\">")
    ∷ Number (number + 1) ∷ Fixed (codes "</text>") ∷ [])

-- the labels of a box
unfoldable pub label_of : (count : ℕ) → BoxRow → List ℕ
label_of count box = row_start (cell_edge count) box.number ++ box_label box ++ row_end box.number
    ++ lower_label (cell_edge count) count box.number

abbrev pub label_if : (count : ℕ) → BoxRow → List ℕ
label_if count box = if nat_lt box.number count then label_of count box else []

-- the class of the picture: of more than 44 boxes names are smaller, and every second number below
-- is left out
abbrev pub matrix_class : (count : ℕ) → List ℕ
matrix_class count = if nat_le count 44 then codes "matrix" else codes "matrix dense"

-- how the picture begins
unfoldable pub picture_start : (count : ℕ) → List ℕ
picture_start count = parts_text
    (Fixed (codes "<svg class=\"") ∷ Fixed (matrix_class count) ∷ Fixed (codes "\" width=\"")
    ∷ Number (matrix_width count)
    ∷ Fixed (codes "\" height=\"") ∷ Number (matrix_height count)
    ∷ Fixed (codes "\" role=\"img\" aria-label=\"Matrix of relations\">") ∷ [])

-- the matrix: each box has its labels, each two boxes their cell, each two of a pipeline a frame
unfoldable pub matrix_text : PageLists → List ℕ
matrix_text p = matrix_start ++ picture_start (length p.boxes)
    ++ flat_map (label_if (length p.boxes)) p.boxes ++ flat_map (cell_text p.boxes) p.betweens
    ++ flat_map (pipe_frames p.boxes) p.pipes ++ matrix_end

-- a mark is within its cell, and its cell within the picture
abbrev pub MarkIsWithin : Type 0
MarkIsWithin = (mark : Mark) (count number : ℕ) (row : BetweenRow) → number < count
    → (number * cell_edge count
    ≤ mark_place number (cell_edge count) (mark_edge mark (cell_edge count) row))
    × (mark_place number (cell_edge count) (mark_edge mark (cell_edge count) row)
    + mark_edge mark (cell_edge count) row ≤ (number + 1) * cell_edge count)
    × ((number + 1) * cell_edge count ≤ count * cell_edge count)
