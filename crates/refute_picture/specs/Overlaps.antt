-- Which boxes of the model overlap, those first whose shorter one lasts longest.
use Rattle.std.specs.Prelude.{ℕ, ◌-◌, ◌^◌, ◌==◌, List, [], ◌∷◌, Bool, bytes_eq}
use Rattle.std.specs.Prelude.{if◌then◌else◌, length, max, min, nat_lt, IsPermutation}
use Rattle.std.specs.List.{flat_map}
use Rattle.std.specs.Option.{option_map_or}
use Rattle.std.specs.List.Sorted.{IsSortedByKey}
use Rattle.std.specs.Ordering.{nat_cmp}
use Rattle.page_rows.specs.declared.model_rows.BetweenRow.{BetweenRow}
use Rattle.page_rows.specs.declared.model_rows.BoxRow.{BoxRow}
use Rattle.page_rows.specs.declared.model_rows.OverlapPart.{OverlapPart}
use Rattle.page_rows.specs.declared.report_rows.SegmentRow.{SegmentRow}
use Rattle.page_rows.specs.Pages.{PageLists}
use Rattle.picture_parts.specs.Names.{same_name}
use Rattle.refute_picture.specs.declared.overlap_row.OverlapRow.{OverlapRow}

-- a segment is of a box: of one name, or of a task, whose events are empty
abbrev pub is_of_box : BoxRow → SegmentRow → Bool
is_of_box box segment = if length box.name.2 == 0 then bytes_eq box.name.0 segment.name.0
    else same_name box.name segment.name

-- how long a segment lasts in all loads together, if it is of a box
abbrev pub sum_of : BoxRow → SegmentRow → ℕ
sum_of box segment = if is_of_box box segment then segment.sum else 0

-- the same of the segment of a box that lasts longest; 0 of none
abbrev pub box_time : List SegmentRow → BoxRow → ℕ
box_time [] box = 0
box_time (segment ∷ segments) box = max (sum_of box segment) (box_time segments box)

-- the same of the box with a number
abbrev pub time_if : List SegmentRow → ℕ → BoxRow → ℕ
time_if segments number box = if box.number == number then box_time segments box else 0

abbrev pub time_at : List SegmentRow → List BoxRow → ℕ → ℕ
time_at segments [] number = 0
time_at segments (box ∷ boxes) number =
    max (time_if segments number box) (time_at segments boxes number)

-- the row of two boxes that overlap first in this load
abbrev pub overlap_row : PageLists → BetweenRow → OverlapPart → OverlapRow
overlap_row p row part = record {
  first = row.first;
  second = row.second;
  both = row.both;
  day = part.day;
  index = part.index;
  request = part.request;
  time = min (time_at p.segments p.boxes row.first) (time_at p.segments p.boxes row.second);
}

-- the same where they overlap, of each two boxes once
abbrev pub rows_of : PageLists → BetweenRow → List OverlapRow
rows_of p row = if nat_lt row.second row.first then []
    else option_map_or (λ (part : OverlapPart). overlap_row p row part ∷ []) row.overlap []

-- the row whose shorter box lasts longest has the least key
abbrev pub overlap_key : OverlapRow → ℕ
overlap_key row = 2 ^ 128 - 1 - row.time

-- each two boxes that overlap once, those first whose shorter one lasts longest
pub record IsOverlapOrder (p : PageLists) (rows : List OverlapRow) : Type 0 where
  pub once : IsPermutation (flat_map (rows_of p) p.betweens) rows
  pub falling : IsSortedByKey overlap_key nat_cmp rows
