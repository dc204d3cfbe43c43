-- Frames around the cells of tasks that are pipelines.
use Rattle.std.specs.Prelude.{ℕ, ◌+◌, ◌-◌, ◌*◌, ◌<◌, ◌++◌, ◌&&◌, List, [], ◌∷◌, Bool, bytes_eq}
use Rattle.std.specs.Prelude.{codes, if◌then◌else◌, length, nat_lt}
use Rattle.std.specs.List.{flat_map}
use Rattle.markup.specs.Parts.{Fixed, Number, parts_text}
use Rattle.page_rows.specs.declared.model_rows.BoxRow.{BoxRow}
use Rattle.page_rows.specs.declared.model_rows.PipeRow.{PipeRow}
use Rattle.picture_parts.specs.Names.{isolated_text}
use Rattle.matrix_picture.specs.Places.{cell_edge, margin}

-- a box of the matrix is of a task
abbrev pub is_of_task : (count : ℕ) → List ℕ → BoxRow → Bool
is_of_task count task box = bytes_eq box.name.0 task && nat_lt box.number count

-- how a frame begins around the cell of a row and a column, from 0
unfoldable pub frame_start : (cell row column : ℕ) → List ℕ
frame_start cell row column = parts_text
    (Fixed (codes "<rect class=\"pip\" x=\"") ∷ Number (margin + column * cell)
    ∷ Fixed (codes "\" y=\"") ∷ Number (row * cell) ∷ Fixed (codes "\" width=\"")
    ∷ Number (cell - 1) ∷ Fixed (codes "\" height=\"") ∷ Number (cell - 1)
    ∷ Fixed (codes "\"><title>pipeline: ") ∷ [])

-- a frame
unfoldable pub frame_text : (cell row column : ℕ) → PipeRow → List ℕ
frame_text cell row column pipe = frame_start cell row column ++ isolated_text pipe.first
    ++ codes ", " ++ isolated_text pipe.second ++ codes "</title></rect>"

-- the frame of two boxes whose tasks are this pipeline
abbrev pub frame_if : (count : ℕ) → PipeRow → BoxRow → BoxRow → List ℕ
frame_if count pipe row column = if is_of_task count pipe.second column
    then frame_text (cell_edge count) row.number column.number pipe else []

-- the frames in the row of a box
abbrev pub row_frames : List BoxRow → PipeRow → BoxRow → List ℕ
row_frames boxes pipe row = if is_of_task (length boxes) pipe.first row
    then flat_map (frame_if (length boxes) pipe row) boxes else []

-- the frames of a pipeline
abbrev pub pipe_frames : List BoxRow → PipeRow → List ℕ
pipe_frames boxes pipe = flat_map (row_frames boxes pipe) boxes
