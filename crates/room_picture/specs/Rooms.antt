-- Who can grow unnoticed: the slack of names, those first that have most in nine of ten loads.
use Rattle.std.specs.Prelude.{ℕ, ◌-◌, ◌^◌, ◌==◌, ◌&&◌, ◌++◌, List, [], ◌∷◌, Bool, codes, length}
use Rattle.std.specs.Prelude.{if◌then◌else◌, min, nat_le, nat_lt, take, IsPermutation}
use Rattle.std.specs.List.{flat_map}
use Rattle.std.specs.List.Sorted.{IsSortedByKey}
use Rattle.std.specs.Ordering.{nat_cmp}
use Rattle.markup.specs.Parts.{Fixed, Number, Place, Time, parts_text}
use Rattle.page_rows.specs.declared.gain_rows.RoomRow.{RoomRow}
use Rattle.page_rows.specs.Pages.{PageLists}
use Rattle.picture_parts.specs.Bars.{bar_text}
use Rattle.picture_parts.specs.Names.{label_text}
use Rattle.room_picture.specs.Scales.{base_of, decades, room_place, room_span, steps_to}
use Rattle.room_picture.specs.Texts.{key_text, lines_start, picture_start, rooms_end, rooms_start}
use Rattle.room_picture.specs.Texts.{row_start, rows_start, table_end, table_start}

-- the row of a name that has slack in some load
abbrev pub row_if_free : RoomRow → List RoomRow
row_if_free row = if nat_lt 0 row.greatest then row ∷ [] else []

-- the row with most slack in nine of ten loads has the least key
abbrev pub room_key : RoomRow → ℕ
room_key row = 2 ^ 128 - 1 - row.tenth

-- the names that have slack in some load, each once, those first that have most in nine of ten
pub record IsRoomOrder (p : PageLists) (rows : List RoomRow) : Type 0 where
  pub once : IsPermutation (flat_map row_if_free p.rooms) rows
  pub falling : IsSortedByKey room_key nat_cmp rows

-- a time, of which 0 says nothing: it stands for that of the slowest load
abbrev pub time_or : (full n : ℕ) → ℕ
time_or full n = if n == 0 then full else n

-- the least time over 0 that the picture of a name shows
abbrev pub row_least : (full : ℕ) → RoomRow → ℕ
row_least full row = min (time_or full row.least) (min (time_or full row.tenth)
    (min (time_or full row.median)
    (min (time_or full row.ninetieth) (time_or full row.greatest))))

-- the least that those of rows show, and at most that of the slowest load
abbrev pub least_of : (full : ℕ) → List RoomRow → ℕ
least_of full [] = full
least_of full (row ∷ rows) = min (row_least full row) (least_of full rows)

-- a scale reaches a power of ten
abbrev pub is_reached : (least full power : ℕ) → Bool
is_reached least full power = nat_le (base_of least) (steps_to power) && nat_le power full

-- the text of a decade on the axis, where the scale reaches it
unfoldable pub tick_text : (least full power : ℕ) → List ℕ
tick_text least full power =
    if is_reached least full power
    then parts_text (Fixed (codes "<text x=\"") ∷ Place (room_place least full power)
    ∷ Fixed (codes "\" y=\"11\">") ∷ Time power ∷ Fixed (codes "</text>") ∷ [])
    else []

-- the line at a place on the scale
unfoldable pub grid_line : (place : ℕ) → List ℕ
grid_line place = parts_text (Fixed (codes "<line class=\"grid\" x1=\"") ∷ Place place
    ∷ Fixed (codes "\" x2=\"") ∷ Place place ∷ Fixed (codes "\" y1=\"0\" y2=\"22\"/>") ∷ [])

-- the line of a decade, where the scale reaches it
unfoldable pub line_text : (least full power : ℕ) → List ℕ
line_text least full power =
    if is_reached least full power then grid_line (room_place least full power) else []

-- the mark at a median
unfoldable pub median_mark : (place : ℕ) → List ℕ
median_mark place = parts_text (Fixed (codes "<line class=\"med\" x1=\"") ∷ Place place
    ∷ Fixed (codes "\" x2=\"") ∷ Place place ∷ Fixed (codes "\" y1=\"3\" y2=\"20\"/>") ∷ [])

-- the picture of a name: the range, the middle 80 %, and the median
unfoldable pub row_bars : (least full : ℕ) → RoomRow → List ℕ
row_bars least full row =
    bar_text (codes "range") (room_span least full row.least row.greatest) 10 3
    ++ bar_text (codes "box") (room_span least full row.tenth row.ninetieth) 5 13
    ++ median_mark (room_place least full row.median)

-- the figures of a name
unfoldable pub row_figures : RoomRow → List ℕ
row_figures row = parts_text
    (Fixed (codes "</svg><td>&ge; ") ∷ Time row.tenth ∷ Fixed (codes "<td>") ∷ Time row.median
    ∷ Fixed (codes "<td>") ∷ Number row.zero ∷ Fixed (codes "<small>/") ∷ Number row.count
    ∷ Fixed (codes "</small></tr>") ∷ [])

-- the row of a name
unfoldable pub row_text : (least full : ℕ) → RoomRow → List ℕ
row_text least full row = row_start ++ label_text row.name ++ picture_start
    ++ row_bars least full row ++ row_figures row

-- how many names are behind the first 24; nothing where none is
unfoldable pub count_text : (more : ℕ) → List ℕ
count_text more = parts_text (Fixed (codes "<p class=\"note\">Further segments, which have no more: ")
    ∷ Number more ∷ Fixed (codes ".</p>") ∷ [])

abbrev pub more_text : (more : ℕ) → List ℕ
more_text more = if more == 0 then [] else count_text more

-- how many names have no slack; nothing where none is
unfoldable pub tight_count : (tight all : ℕ) → List ℕ
tight_count tight all = parts_text
    (Fixed (codes "<p class=\"note\">Without slack in any load: ") ∷ Number tight
    ∷ Fixed (codes " of ") ∷ Number all ∷ Fixed (codes " segments.</p>") ∷ [])

abbrev pub tight_text : (tight all : ℕ) → List ℕ
tight_text tight all = if tight == 0 then [] else tight_count tight all

-- the head of the table, with its axis
unfoldable pub axis_text : (least full : ℕ) → List ℕ
axis_text least full = table_start ++ flat_map (tick_text least full) decades ++ lines_start
    ++ flat_map (line_text least full) decades ++ rows_start

-- the table of these rows
unfoldable pub table_text : (full : ℕ) → List RoomRow → List ℕ
table_text full rows = key_text ++ axis_text (least_of full rows) full
    ++ flat_map (row_text (least_of full rows) full) rows ++ table_end

-- the same; nothing where there is no row
abbrev pub shown_text : (full : ℕ) → List RoomRow → List ℕ
shown_text full rows = if length rows == 0 then [] else table_text full rows

-- the part on slack, with the first 24 rows
unfoldable pub rooms_text : PageLists → List RoomRow → List ℕ
rooms_text p rows = rooms_start ++ shown_text p.latency.greatest (take 24 rows)
    ++ more_text (length rows - 24)
    ++ tight_text (length p.rooms - length rows) (length p.rooms) ++ rooms_end
