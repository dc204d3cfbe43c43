-- Where the cells of the matrix are, in pixels.
use Rattle.std.specs.Prelude.{ℕ, ◌+◌, ◌-◌, ◌*◌, ◌/◌, if◌then◌else◌, nat_le}

-- the edge of a cell in pixels: smaller where there are more boxes
abbrev pub cell_edge : (count : ℕ) → ℕ
cell_edge count = if nat_le count 24 then 16 else if nat_le count 44 then 12 else 9

-- the pixels to the left of the cells, for the names
abbrev pub margin : ℕ
margin = 220

-- how wide and how high the picture is
abbrev pub matrix_width : (count : ℕ) → ℕ
matrix_width count = margin + count * cell_edge count + 4

abbrev pub matrix_height : (count : ℕ) → ℕ
matrix_height count = count * cell_edge count + 16

-- where a mark of this edge begins in the cell with this number, from 0
abbrev pub mark_place : (number cell edge : ℕ) → ℕ
mark_place number cell edge = number * cell + (cell - edge) / 2
