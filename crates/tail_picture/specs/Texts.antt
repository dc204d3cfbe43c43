-- Fixed texts of the page.
use Rattle.std.specs.Prelude.{ℕ, ◌++◌, List, codes}

-- how the part begins
unfoldable pub tail_start : List ℕ
tail_start = codes "<section id=\"slow\"><h2>What makes the slowest 5 % slow?</h2>"

-- how its table begins
unfoldable pub table_start : List ℕ
table_start = codes "<p class=\"key\"><i class=\"k path\"></i>slowest 5 %, mean per load on critica"
    ++ codes "l paths <i class=\"k off\"></i>the rest</p><table class=\"rank tailt\"><thead><tr><th"
    ++ codes " class=\"n\">Segment<th class=\"b\">Per load<th>Slow<th>Rest<th>More in slow<th class"
    ++ codes "=\"heat\">Loads from quickest to slowest</tr></thead><tbody>"

-- how the row of a segment begins
unfoldable pub row_start : List ℕ
row_start = codes "<tr><td class=\"n\">"

-- how the picture of a row begins
unfoldable pub picture_start : List ℕ
picture_start = codes "<td class=\"b\"><svg class=\"bar\" width=\"100%\" height=\"18\">"

-- how its table ends
unfoldable pub table_end : List ℕ
table_end = codes "</tbody></table>"

-- how the part ends
unfoldable pub tail_end : List ℕ
tail_end = codes "</section>"

-- how the cells of a name begin
unfoldable pub heat_start : List ℕ
heat_start = codes "<td class=\"heat\"><svg class=\"bar\" width=\"100%\" height=\"18\">"

-- how the row of a name ends behind its cells
unfoldable pub heat_end : List ℕ
heat_end = codes "</svg></tr>"
