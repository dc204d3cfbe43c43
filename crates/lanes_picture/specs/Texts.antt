-- Fixed texts of the page.
use Rattle.std.specs.Prelude.{ℕ, ◌++◌, List, codes}

-- how the loads begin
unfoldable pub loads_start : List ℕ
loads_start = codes "<section id=\"loads\"><h2>Single loads</h2><p class=\"key\"><i class=\"k path"
    ++ codes "\"></i>critical path <i class=\"k off\"></i>beside it <i class=\"k slk\"></i>slack: c"
    ++ codes "ould last so much longer <i class=\"k wait\"></i>between segments</p>"

-- how the loads end
unfoldable pub loads_end : List ℕ
loads_end = codes "</section>"

-- how the row of a bar begins
unfoldable pub row_start : List ℕ
row_start = codes "<tr><td class=\"n\">"

-- how the names of lanes begin
unfoldable pub names_start : List ℕ
names_start = codes "<div class=\"gantt\"><div class=\"names\"><div class=\"axisgap\"></div><div cl"
    ++ codes "ass=\"lane top\">critical path</div>"

-- how lanes end, and a table of their bars begins
unfoldable pub lanes_end : List ℕ
lanes_end = codes "</svg></div></div><details><summary>As a table</summary><div class=\"scroll\"><t"
    ++ codes "able class=\"rank\"><thead><tr><th class=\"n\">Segment<th>From<th>Lasts<th>Slack</tr>"
    ++ codes "</thead><tbody>"

-- how a table of bars ends, and a load
unfoldable pub table_end : List ℕ
table_end = codes "</tbody></table></div></details></details>"
