-- What the slowest loads spend on their critical paths, beside the rest.
use Rattle.std.specs.Prelude.{ℕ, ◌+◌, ◌-◌, ◌^◌, ◌==◌, ◌||◌, ◌++◌, List, [], ◌∷◌, codes, length, max}
use Rattle.std.specs.Prelude.{if◌then◌else◌, nat_lt, slice_get, take, IsPermutation}
use Rattle.std.specs.List.{flat_map}
use Rattle.std.specs.Option.{option_map_or}
use Rattle.std.specs.List.Sorted.{IsSortedByKey}
use Rattle.std.specs.Ordering.{nat_cmp}
use Rattle.markup.specs.Parts.{Fixed, Number, Time, parts_text}
use Rattle.page_rows.specs.declared.tail_rows.BucketRow.{BucketRow}
use Rattle.page_rows.specs.declared.tail_rows.TailHead.{TailHead}
use Rattle.page_rows.specs.declared.tail_rows.TailRow.{TailRow}
use Rattle.page_rows.specs.Pages.{PageLists}
use Rattle.picture_parts.specs.Bars.{bar_text}
use Rattle.picture_parts.specs.Names.{label_text}
use Rattle.picture_parts.specs.Places.{mean_of, span_of}
use Rattle.tail_picture.specs.declared.tailed_row.TailedRow.{TailedRow}
use Rattle.tail_picture.specs.Heats.{heat_text}
use Rattle.tail_picture.specs.Texts.{picture_start, row_start, table_end, table_start, tail_end}
use Rattle.tail_picture.specs.Texts.{tail_start}

-- how many loads are not slow
abbrev pub others_of : TailHead → ℕ
others_of head = head.traces - head.slow

-- the row of a name: its mean time on the critical paths of slow loads, and of the rest
abbrev pub tailed_row : TailHead → TailRow → TailedRow
tailed_row head row = record {
  name = row.name;
  slow = mean_of row.slow_sum head.slow;
  rest = mean_of row.rest_sum (others_of head);
}

-- the row of a name that has time on critical paths
abbrev pub row_if_seen : TailHead → TailRow → List TailedRow
row_if_seen head row =
    if nat_lt 0 (row.slow_sum + row.rest_sum) then tailed_row head row ∷ [] else []

-- how far two numbers are apart, and the sign of the first less the second
abbrev pub apart_of : (slow rest : ℕ) → ℕ
apart_of slow rest = if nat_lt slow rest then rest - slow else slow - rest

abbrev pub sign_of : (slow rest : ℕ) → List ℕ
sign_of slow rest = if nat_lt slow rest then codes "-" else codes "+"

-- how far the two means of a name are apart
abbrev pub apart : TailedRow → ℕ
apart row = apart_of row.slow row.rest

-- the row that is farthest apart has the least key
abbrev pub tail_key : TailedRow → ℕ
tail_key row = 2 ^ 128 - 1 - apart row

-- the names with time on critical paths, each once, those first that are farthest apart
pub record IsTailOrder (p : PageLists) (rows : List TailedRow) : Type 0 where
  pub once : IsPermutation (flat_map (row_if_seen p.tail) p.tail_segments) rows
  pub falling : IsSortedByKey tail_key nat_cmp rows

-- the greater mean of a name
abbrev pub greater_of : TailedRow → ℕ
greater_of row = max row.slow row.rest

-- what fills the width: the greatest mean of rows
abbrev pub width_of : List TailedRow → ℕ
width_of [] = 0
width_of (row ∷ rows) = max (greater_of row) (width_of rows)

-- the bars of a name on this width: the slow loads above, the rest below
unfoldable pub row_bars : (width : ℕ) → TailedRow → List ℕ
row_bars width row = bar_text (codes "path") (span_of 0 row.slow width) 0 9
    ++ bar_text (codes "off") (span_of 0 row.rest width) 10 8

-- the figures of a name
unfoldable pub row_figures : TailedRow → List ℕ
row_figures row = parts_text
    (Fixed (codes "</svg><td>") ∷ Time row.slow ∷ Fixed (codes "<td>") ∷ Time row.rest
    ∷ Fixed (codes "<td>") ∷ Fixed (sign_of row.slow row.rest) ∷ Time (apart row) ∷ [])

-- the row of a name
unfoldable pub row_text : PageLists → (width : ℕ) → TailedRow → List ℕ
row_text p width row = row_start ++ label_text row.name ++ picture_start ++ row_bars width row
    ++ row_figures row ++ heat_text p width row.name

-- how many loads are slow
unfoldable pub head_text : TailHead → List ℕ
head_text head = parts_text
    (Fixed (codes "<p>Slow loads: ") ∷ Number head.slow ∷ Fixed (codes ", from ") ∷ Time head.floor
    ∷ Fixed (codes " on. Other loads: ") ∷ Number (others_of head) ∷ Fixed (codes ".</p>") ∷ [])

-- a figure of the last rank; 0 where there is none
abbrev pub last_figure : (BucketRow → ℕ) → List BucketRow → ℕ
last_figure figure buckets = option_map_or figure (slice_get buckets (length buckets - 1)) 0

-- the latencies of the slow loads together, which are the last rank, and their critical paths
abbrev pub slow_sum : PageLists → ℕ
slow_sum p = last_figure (λ (b : BucketRow). b.latency) p.buckets

abbrev pub slow_path_sum : PageLists → ℕ
slow_path_sum p = last_figure (λ (b : BucketRow). b.length) p.buckets

-- the mean latency of a slow load, and of another one
abbrev pub slow_latency : PageLists → ℕ
slow_latency p = mean_of (slow_sum p) p.tail.slow

abbrev pub rest_latency : PageLists → ℕ
rest_latency p = mean_of (p.latency.sum - slow_sum p) (others_of p.tail)

-- how much of them is on critical paths
abbrev pub slow_path : PageLists → ℕ
slow_path p = mean_of (slow_path_sum p) p.tail.slow

abbrev pub rest_path : PageLists → ℕ
rest_path p = mean_of (p.report.critical - slow_path_sum p) (others_of p.tail)

-- by how much a slow load is longer: on the whole, on its critical path and between its segments
unfoldable pub whole_text : (latency others path other_path between other_between : ℕ) → List ℕ
whole_text latency others path other_path between other_between = parts_text
    (Fixed (codes "<p>A slow load takes ") ∷ Time latency
    ∷ Fixed (codes " on average, another one ") ∷ Time others ∷ Fixed (codes ": <b>")
    ∷ Fixed (sign_of latency others) ∷ Time (apart_of latency others)
    ∷ Fixed (codes "</b>, of which ") ∷ Fixed (sign_of path other_path)
    ∷ Time (apart_of path other_path) ∷ Fixed (codes " on critical paths and ")
    ∷ Fixed (sign_of between other_between) ∷ Time (apart_of between other_between)
    ∷ Fixed (codes " between segments.</p>") ∷ [])

-- the same of a page; nothing where all loads are slow, or none
abbrev pub difference_text : PageLists → List ℕ
difference_text p =
    if p.tail.slow == 0 || others_of p.tail == 0 then []
    else whole_text (slow_latency p) (rest_latency p) (slow_path p) (rest_path p)
    (slow_latency p - slow_path p) (rest_latency p - rest_path p)

-- how many names are behind the first 16; nothing where none is
unfoldable pub count_text : ℕ → List ℕ
count_text count = parts_text
    (Fixed (codes "<p class=\"note\">Further segments on critical paths, which differ no more: ")
    ∷ Number count ∷ Fixed (codes ".</p>") ∷ [])

abbrev pub more_text : ℕ → List ℕ
more_text count = if count == 0 then [] else count_text count

-- the table of these rows
unfoldable pub table_text : PageLists → List TailedRow → List ℕ
table_text p rows = table_start ++ flat_map (row_text p (width_of rows)) rows ++ table_end

-- the part on the slowest loads
unfoldable pub tail_text : PageLists → List TailedRow → List ℕ
tail_text p rows = tail_start ++ head_text p.tail ++ difference_text p ++ table_text p (take 16 rows)
    ++ more_text (length rows - 16) ++ tail_end
