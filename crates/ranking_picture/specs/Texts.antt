-- Fixed texts of the page.
use Rattle.std.specs.Prelude.{ℕ, ◌++◌, List, codes}

-- how a picture in a table begins
unfoldable pub picture_start : List ℕ
picture_start = codes "<td class=\"b\"><svg class=\"bar\" width=\"100%\" height=\"16\">"

-- how the strip begins
unfoldable pub strip_start : List ℕ
strip_start = codes "<svg class=\"strip\" width=\"100%\" height=\"34\">"

-- the name of the row for the time between segments
unfoldable pub between_name : List ℕ
between_name = codes "<tr class=\"rest\"><td class=\"n\">between segments"

-- how the row of a segment begins
unfoldable pub row_start : List ℕ
row_start = codes "<tr><td class=\"n\">"

-- how the list of the others begins
unfoldable pub others_start : List ℕ
others_start = codes "<details><summary>The others by name</summary><ol class=\"others\">"

-- how the list of the others ends
unfoldable pub others_end : List ℕ
others_end = codes "</ol></details>"

-- how the ranking begins
unfoldable pub ranking_start : List ℕ
ranking_start = codes "<section id=\"where\"><h2>Where did the time go, and what would pay?</h2>"

-- how the table begins
unfoldable pub table_start : List ℕ
table_start = codes "<p class=\"key\"><i class=\"k path\"></i>on critical paths <i class=\"k gain\""
    ++ codes "></i>of it gained if it took no time <i class=\"k half\"></i>gained at half its time "
    ++ codes "<i class=\"k wait\"></i>between segments (network, queues)</p><table class=\"rank\"><"
    ++ codes "thead><tr><th class=\"n\">Segment<th class=\"b\">Share of all latency<th>Share<th>Per"
    ++ codes " load<th>Gain per load<th>Loads</tr></thead><tbody>"

-- how the table ends
unfoldable pub table_end : List ℕ
table_end = codes "</tbody></table><p class=\"note\">Gains do not add up: two segments beside each "
    ++ codes "other gain nothing alone, two in a row may gain less together.</p>"

-- how the ranking ends
unfoldable pub ranking_end : List ℕ
ranking_end = codes "</section>"
