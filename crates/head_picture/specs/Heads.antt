-- The head of a page: its figures, the latency of the loads rank by rank, and what was refused.
use Rattle.std.specs.Prelude.{ℕ, ◌+◌, ◌-◌, ◌++◌, List, [], ◌∷◌, codes, if◌then◌else◌}
use Rattle.std.specs.Prelude.{bytes_eq, length, min}
use Rattle.std.specs.List.{flat_map, list_any}
use Rattle.markup.specs.Parts.{Fixed, Number, Time, Share, parts_text}
use Rattle.page_rows.specs.declared.report_rows.SegmentRow.{SegmentRow}
use Rattle.page_rows.specs.declared.tail_rows.BucketRow.{BucketRow}
use Rattle.page_rows.specs.Pages.{PageLists}
use Rattle.picture_parts.specs.declared.span.Span.{Span}
use Rattle.picture_parts.specs.Bars.{bar_text}
use Rattle.picture_parts.specs.Places.{column_of, mean_of, part_of, whole_of}
use Rattle.head_picture.specs.Refusals.{refused_text}
use Rattle.head_picture.specs.Texts.{columns_end, columns_start, head_start}

-- the tasks that were seen, with one more
abbrev pub with_task : List (List ℕ) → List ℕ → List (List ℕ)
with_task seen task = if list_any (bytes_eq task) seen then seen else seen ++ task ∷ []

-- those with the tasks of segments, in the order of first sight
abbrev pub with_segments : List (List ℕ) → List SegmentRow → List (List ℕ)
with_segments seen [] = seen
with_segments seen (segment ∷ segments) = with_segments (with_task seen segment.name.0) segments

-- the tasks of segments, each once
abbrev pub tasks_of : List SegmentRow → List (List ℕ)
tasks_of segments = with_segments [] segments

-- the figures: how many loads, segments and tasks there are, the latencies, and the share of all
-- latency that is on critical paths
unfoldable pub figures_text : PageLists → (tasks : ℕ) → List ℕ
figures_text p tasks = parts_text
    (Fixed (codes "<dl><div><dt>loads</dt><dd>") ∷ Number p.report.traces
    ∷ Fixed (codes "</dd></div><div><dt>segments</dt><dd>") ∷ Number (length p.segments)
    ∷ Fixed (codes " <small>of ") ∷ Number tasks
    ∷ Fixed (codes " tasks</small></dd></div><div><dt>median</dt><dd>") ∷ Time p.latency.median
    ∷ Fixed (codes "</dd></div><div><dt>slowest 5 % from</dt><dd>") ∷ Time p.tail.floor
    ∷ Fixed (codes "</dd></div><div><dt>slowest</dt><dd>") ∷ Time p.latency.greatest
    ∷ Fixed (codes "</dd></div><div><dt>on critical paths</dt><dd>")
    ∷ Share p.report.critical (whole_of p.report.critical p.latency.sum)
    ∷ Fixed (codes "</dd></div></dl>") ∷ [])

-- the mean latency of the loads of a rank, and how much of it is on critical paths
abbrev pub mean_latency : BucketRow → ℕ
mean_latency b = mean_of b.latency b.loads

abbrev pub mean_length : BucketRow → ℕ
mean_length b = mean_of (min b.length b.latency) b.loads

-- what is said of a rank
unfoldable pub column_title : (loads latency length : ℕ) → List ℕ
column_title loads latency length = parts_text
    (Fixed (codes "<g><title>Loads: ") ∷ Number loads ∷ Fixed (codes ", mean ") ∷ Time latency
    ∷ Fixed (codes ", of it on critical paths ") ∷ Time length ∷ Fixed (codes "</title>") ∷ [])

-- a column of so many pixels, the lower of which are on critical paths, on the line at 52 pixels
unfoldable pub column_bars : Span → (all path : ℕ) → List ℕ
column_bars span all path = bar_text (codes "wait") span (52 - all) (all - path)
    ++ bar_text (codes "path") span (52 - path) path ++ codes "</g>"

-- the column of a rank of so many; 50 pixels are the greatest latency
unfoldable pub column_text : (count most : ℕ) → BucketRow → List ℕ
column_text count most b = column_title b.loads (mean_latency b) (mean_length b)
    ++ column_bars (column_of count b.number) (part_of 50 (mean_latency b) most)
    (part_of 50 (mean_length b) most)

-- the columns of all ranks
unfoldable pub columns_text : PageLists → List ℕ
columns_text p = columns_start
    ++ flat_map (column_text (length p.buckets) p.latency.greatest) p.buckets ++ columns_end

-- the head of a page
unfoldable pub head_text : PageLists → List ℕ
head_text p = head_start ++ figures_text p (length (tasks_of p.segments))
    ++ columns_text p ++ refused_text p.refused ++ codes "</header>"
