-- The time of a name on critical paths, rank by rank, as cells that are darker where it is longer.
use Rattle.std.specs.Prelude.{ℕ, ◌≤◌, ◌+◌, ◌==◌, ◌++◌, List, [], ◌∷◌, codes, if◌then◌else◌, length}
use Rattle.std.specs.Prelude.{min}
use Rattle.std.specs.List.{flat_map, slice_index_or}
use Rattle.markup.specs.Parts.{Fixed, Number, Place, Time, parts_text}
use Rattle.page_rows.specs.declared.tail_rows.BucketRow.{BucketRow}
use Rattle.page_rows.specs.declared.tail_rows.RankRow.{RankRow}
use Rattle.page_rows.specs.Pages.{PageLists}
use Rattle.picture_parts.specs.declared.span.Span.{Span}
use Rattle.picture_parts.specs.Names.{same_name}
use Rattle.picture_parts.specs.Places.{column_of, mean_of, part_of}
use Rattle.tail_picture.specs.Texts.{heat_end, heat_start}
use Rattle.trace_types.specs.Segments.{SegmentName}

-- how dark a cell is, from 0 to 8: 0 for no time alone, then a shade for each eighth of the longest
abbrev pub shade_of : (mean longest : ℕ) → ℕ
shade_of mean longest = if mean == 0 then 0 else 1 + min 7 (part_of 8 mean longest)

-- no cell is darker than the darkest, and one of a longer time is no lighter
abbrev pub ShadeIsOnScale : Type 0
ShadeIsOnScale = (mean longest : ℕ) → shade_of mean longest ≤ 8

abbrev pub ShadesKeepOrder : Type 0
ShadesKeepOrder =
    (mean longer longest : ℕ) → mean ≤ longer → shade_of mean longest ≤ shade_of longer longest

-- the time of a name in the rank with this number; 0 where the row has none
abbrev pub sum_at : List ℕ → ℕ → ℕ
sum_at sums number = slice_index_or sums number 0

-- its mean in a rank
abbrev pub mean_at : List ℕ → BucketRow → ℕ
mean_at sums bucket = mean_of (sum_at sums bucket.number) bucket.loads

-- a cell, with what is said of it
unfoldable pub shaded_cell : Span → (shade loads mean : ℕ) → List ℕ
shaded_cell span shade loads mean = parts_text
    (Fixed (codes "<rect class=\"h") ∷ Number shade ∷ Fixed (codes "\" x=\"") ∷ Place span.x
    ∷ Fixed (codes "\" width=\"") ∷ Place span.width
    ∷ Fixed (codes "\" height=\"18\"><title>Loads: ") ∷ Number loads ∷ Fixed (codes ", per load ")
    ∷ Time mean ∷ Fixed (codes "</title></rect>") ∷ [])

-- the cell of a rank of so many
unfoldable pub cell_text : (count longest : ℕ) → List ℕ → BucketRow → List ℕ
cell_text count longest sums bucket = shaded_cell (column_of count bucket.number)
    (shade_of (mean_at sums bucket) longest) bucket.loads (mean_at sums bucket)

-- the cells of a name, where the row is of it
abbrev pub cells_if : (longest : ℕ) → List BucketRow → SegmentName → RankRow → List ℕ
cells_if longest buckets name row =
    if same_name row.name name
    then flat_map (cell_text (length buckets) longest row.sums) buckets else []

-- the cells of a name, the quickest loads first, and the end of its row
unfoldable pub heat_text : PageLists → (longest : ℕ) → SegmentName → List ℕ
heat_text p longest name =
    heat_start ++ flat_map (cells_if longest p.buckets name) p.ranks ++ heat_end
