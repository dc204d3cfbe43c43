-- The table of a ranking: a row each for the first 24 segments, one for the rest, one for the time
-- between segments; the others by name below it.
use Rattle.std.specs.Prelude.{ℕ, ◌-◌, ◌/◌, ◌==◌, ◌++◌, List, [], ◌∷◌, codes, drop, if◌then◌else◌}
use Rattle.std.specs.Prelude.{length, max, nat_lt, sum_by, take}
use Rattle.std.specs.List.{flat_map}
use Rattle.markup.specs.Parts.{Fixed, Number, Place, Time, Share, parts_text}
use Rattle.page_rows.specs.Pages.{PageLists}
use Rattle.picture_parts.specs.Bars.{bar_text}
use Rattle.picture_parts.specs.Names.{label_text}
use Rattle.picture_parts.specs.Places.{place_of, span_of}
use Rattle.ranking_picture.specs.declared.ranked_row.RankedRow.{RankedRow}
use Rattle.ranking_picture.specs.declared.scale.Scale.{Scale}
use Rattle.ranking_picture.specs.Strips.{all_time, strip_text}
use Rattle.ranking_picture.specs.Texts.{between_name, others_end, others_start, picture_start}
use Rattle.ranking_picture.specs.Texts.{ranking_end, ranking_start, row_start, table_end}
use Rattle.ranking_picture.specs.Texts.{table_start}

-- a time for each load, rounded down
abbrev pub per_load : (time loads : ℕ) → ℕ
per_load time loads = if loads == 0 then 0 else time / loads

-- the time of rows on critical paths
abbrev pub time_of_rows : List RankedRow → ℕ
time_of_rows rows = sum_by (λ (r : RankedRow). r.critical) rows

-- the time on critical paths of the segments behind the first 24
abbrev pub rest_time : (critical : ℕ) → List RankedRow → ℕ
rest_time critical ranking = critical - time_of_rows (take 24 ranking)

-- the time between segments
abbrev pub between_time : PageLists → ℕ
between_time p = all_time p - p.report.critical

-- the mark at what a segment gains at half of its time
unfoldable pub half_mark : (place : ℕ) → List ℕ
half_mark place = parts_text
    (Fixed (codes "<line class=\"half\" x1=\"") ∷ Place place ∷ Fixed (codes "\" x2=\"")
    ∷ Place place ∷ Fixed (codes "\" y1=\"1\" y2=\"15\"/>") ∷ [])

-- the bars of a segment: its time on critical paths, inside it what it gains if it took no time,
-- and a mark at what it gains at half of its time
unfoldable pub row_bars : (width : ℕ) → RankedRow → List ℕ
row_bars width row = bar_text (codes "path") (span_of 0 row.critical width) 0 16
    ++ bar_text (codes "gain") (span_of 0 row.none width) 4 8
    ++ half_mark (place_of row.half width)

-- the figures of a segment
unfoldable pub row_figures : Scale → RankedRow → List ℕ
row_figures scale row = parts_text
    (Fixed (codes "</svg><td>") ∷ Share row.critical scale.all ∷ Fixed (codes "<td>")
    ∷ Time (per_load row.critical scale.loads) ∷ Fixed (codes "<td>")
    ∷ Time (per_load row.none scale.loads) ∷ Fixed (codes "<td>") ∷ Number row.on_path
    ∷ Fixed (codes "</tr>") ∷ [])

-- the row of a segment
unfoldable pub row_text : Scale → RankedRow → List ℕ
row_text scale row = row_start ++ label_text row.name ++ picture_start
    ++ row_bars scale.width row ++ row_figures scale row

-- a row for a time that is no segment's, of so many segments
unfoldable pub other_figures : Scale → (time : ℕ) → List ℕ
other_figures scale time = parts_text
    (Fixed (codes "</svg><td>") ∷ Share time scale.all ∷ Fixed (codes "<td>")
    ∷ Time (per_load time scale.loads) ∷ Fixed (codes "<td><td></tr>") ∷ [])

unfoldable pub other_text : Scale → (class : List ℕ) → (time : ℕ) → List ℕ
other_text scale class time =
    picture_start ++ bar_text class (span_of 0 time scale.width) 0 16 ++ other_figures scale time

-- the row for the segments behind the first 24, if there are any
unfoldable pub rest_name : ℕ → List ℕ
rest_name count = parts_text (Fixed (codes "<tr class=\"rest\"><td class=\"n\">the rest: ")
    ∷ Number count ∷ Fixed (codes " segments") ∷ [])

abbrev pub rest_text : Scale → (time count : ℕ) → List ℕ
rest_text scale time count =
    if count == 0 then [] else rest_name count ++ other_text scale (codes "path2") time

-- the row for the time between segments
unfoldable pub between_text : Scale → (time : ℕ) → List ℕ
between_text scale time = between_name ++ other_text scale (codes "wait") time

-- a segment behind the first 24, by name
unfoldable pub item_time : ℕ → List ℕ
item_time time = parts_text (Fixed (codes " ") ∷ Time time ∷ Fixed (codes "</li>") ∷ [])

unfoldable pub item_text : RankedRow → List ℕ
item_text row = codes "<li>" ++ label_text row.name ++ item_time row.critical

-- all segments behind the first 24
unfoldable pub others_list : List RankedRow → List ℕ
others_list ranking = others_start ++ flat_map item_text (drop 24 ranking) ++ others_end

-- the same, if there are any
abbrev pub others_text : List RankedRow → List ℕ
others_text ranking = if nat_lt 24 (length ranking) then others_list ranking else []

-- how many segments are on no critical path; nothing where none is
unfoldable pub off_count : (off all : ℕ) → List ℕ
off_count off all = parts_text (Fixed (codes "<p class=\"note\">") ∷ Number off
    ∷ Fixed (codes " of ") ∷ Number all
    ∷ Fixed (codes " segments are on no critical path and so not in this list.</p>") ∷ [])

abbrev pub off_text : (off all : ℕ) → List ℕ
off_text off all = if off == 0 then [] else off_count off all

-- the scale of the table: the longest row, the rest or the time between fill the width
abbrev pub scale_of : PageLists → List RankedRow → Scale
scale_of p ranking = record {
  all = all_time p;
  loads = p.report.traces;
  width = max (max (between_time p) (rest_time p.report.critical ranking))
      (time_of_rows (take 1 ranking));
}

-- the rows of the table
unfoldable pub rows_text : PageLists → List RankedRow → List ℕ
rows_text p ranking = flat_map (row_text (scale_of p ranking)) (take 24 ranking)
    ++ rest_text (scale_of p ranking) (rest_time p.report.critical ranking) (length ranking - 24)
    ++ between_text (scale_of p ranking) (between_time p)

-- the ranking: the strip, the table, the others by name, and how many are on no critical path
unfoldable pub ranking_text : PageLists → List RankedRow → List ℕ
ranking_text p ranking = ranking_start ++ strip_text (all_time p) p.report.critical ranking
    ++ table_start ++ rows_text p ranking ++ table_end ++ others_text ranking
    ++ off_text (length p.segments - length ranking) (length p.segments) ++ ranking_end
