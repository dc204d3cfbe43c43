-- The strip: all latency as one bar, of eight segments, of the others, and of the time between.
use Rattle.std.specs.Prelude.{ℕ, ◌≡◌, ◌≤◌, ◌<◌, ◌+◌, ◌++◌, List, [], ◌∷◌, codes, if◌then◌else◌}
use Rattle.std.specs.Prelude.{map, min, nat_lt, sum_by, take}
use Rattle.markup.specs.Parts.{Fixed, Time, Share, parts_text}
use Rattle.page_rows.specs.Pages.{PageLists}
use Rattle.picture_parts.specs.declared.span.Span.{Span}
use Rattle.picture_parts.specs.Bars.{bar_text, caption_start}
use Rattle.picture_parts.specs.Names.{arrow, isolated_text, title_text}
use Rattle.picture_parts.specs.Places.{span_of, whole_of}
use Rattle.ranking_picture.specs.declared.ranked_row.RankedRow.{RankedRow}
use Rattle.ranking_picture.specs.Texts.{strip_start}

-- all latency, and at least the time on critical paths
abbrev pub all_time : PageLists → ℕ
all_time p = whole_of p.report.critical p.latency.sum

-- where a part of the strip ends: no further than the time on critical paths
abbrev pub end_of : (critical at time : ℕ) → ℕ
end_of critical at time = min (at + time) critical

-- the parts of the strip from a time on: of these times on critical paths, of the rest on them, and
-- of what is between segments
abbrev pub strip_spans : (all critical at : ℕ) → List ℕ → List Span
strip_spans all critical at [] = span_of at critical all ∷ span_of critical all all ∷ []
strip_spans all critical at (time ∷ times) = span_of at (end_of critical at time) all
    ∷ strip_spans all critical (end_of critical at time) times

-- the parts of the strip add up to its width
abbrev pub StripAddsUp : Type 0
StripAddsUp = (all critical : ℕ) (times : List ℕ) → critical ≤ all → 0 < all
    → sum_by (λ (s : Span). s.width) (strip_spans all critical 0 times) ≡ 100000

-- what is said of a segment in the strip
unfoldable pub part_figures : (all : ℕ) → RankedRow → List ℕ
part_figures all row = parts_text
    (Fixed (codes ": ") ∷ Time row.critical ∷ Fixed (codes ", ") ∷ Share row.critical all
    ∷ Fixed (codes " of all</title>") ∷ [])

unfoldable pub part_title : (all : ℕ) → RankedRow → List ℕ
part_title all row = codes "<g><title>" ++ title_text row.name ++ part_figures all row

-- the name in a part that is wide enough, and its share below
unfoldable pub part_share : (all : ℕ) → RankedRow → List ℕ
part_share all row = parts_text
    (Fixed (codes "</text><text class=\"in\" x=\"5\" y=\"28\">") ∷ Share row.critical all
    ∷ Fixed (codes "</text></svg>") ∷ [])

unfoldable pub part_name : (all : ℕ) → RankedRow → List ℕ
part_name all row = isolated_text row.name.0 ++ codes " " ++ arrow ++ codes " "
    ++ isolated_text row.name.2 ++ part_share all row

abbrev pub part_caption : (all : ℕ) → Span → RankedRow → List ℕ
part_caption all span row =
    if nat_lt 3500 span.width then caption_start span 34 14 ++ part_name all row else []

-- the part of one segment
unfoldable pub part_text : (all : ℕ) → Span → RankedRow → List ℕ
part_text all span row = part_title all row ++ bar_text (codes "path") span 0 34
    ++ part_caption all span row ++ codes "</g>"

-- the parts of segments from a time on, then the rest of the critical paths and what is between
abbrev pub strip_from : (all critical at : ℕ) → List RankedRow → List ℕ
strip_from all critical at [] = bar_text (codes "path2") (span_of at critical all) 0 34
    ++ bar_text (codes "wait") (span_of critical all all) 0 34
strip_from all critical at (row ∷ rows) =
    part_text all (span_of at (end_of critical at row.critical) all) row
    ++ strip_from all critical (end_of critical at row.critical) rows

-- the parts of segments, one on each of these spans, and on the last two spans the rest of the
-- critical paths and what is between
abbrev pub parts_with : (all : ℕ) → List RankedRow → List Span → List ℕ
parts_with all [] [] = []
parts_with all [] (rest ∷ []) = []
parts_with all [] (rest ∷ between ∷ []) =
    bar_text (codes "path2") rest 0 34 ++ bar_text (codes "wait") between 0 34
parts_with all [] (rest ∷ between ∷ span ∷ spans) = []
parts_with all (row ∷ rows) [] = []
parts_with all (row ∷ rows) (span ∷ spans) = part_text all span row ++ parts_with all rows spans

-- what is drawn from a time on has the spans of these segments
abbrev pub StripIsDrawn : Type 0
StripIsDrawn = (all critical at : ℕ) (rows : List RankedRow) → strip_from all critical at rows
    ≡ parts_with all rows
    (strip_spans all critical at (map (λ (row : RankedRow). row.critical) rows))

-- the strip of the first eight segments of a ranking
unfoldable pub strip_text : (all critical : ℕ) → List RankedRow → List ℕ
strip_text all critical ranking = strip_start
    ++ strip_from all critical 0 (take 8 ranking) ++ codes "</svg>"
