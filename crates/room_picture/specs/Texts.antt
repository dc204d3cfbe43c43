-- Fixed texts of the page.
use Rattle.std.specs.Prelude.{ℕ, ◌++◌, List, codes}

-- how the part begins
unfoldable pub rooms_start : List ℕ
rooms_start = codes "<section id=\"slack\"><h2>Who can grow unnoticed?</h2>"

-- what its pictures mean
unfoldable pub key_text : List ℕ
key_text = codes "<p class=\"key\"><i class=\"k range\"></i>least to greatest slack <i class=\"k bo"
    ++ codes "x\"></i>middle 80 % of loads <i class=\"k med\"></i>median; 0 = on a longest chain; t"
    ++ codes "he steps 1, 2, 5 and 10 are equally wide, up to the slowest load. Time between segmen"
    ++ codes "ts does not count, so true room may be greater.</p>"

-- how its table begins, up to the axis
unfoldable pub table_start : List ℕ
table_start = codes "<table class=\"rank\"><thead><tr><th class=\"n\">Segment<th class=\"b\"><svg c"
    ++ codes "lass=\"axis\" width=\"100%\" height=\"14\"><text x=\"2%\" y=\"11\">0</text>"

-- how the head of the table goes on behind the texts of the axis, up to its lines
unfoldable pub lines_start : List ℕ
lines_start = codes "</svg><svg width=\"0\" height=\"0\" aria-hidden=\"true\"><defs><g id=\"decades"
    ++ codes "\"><line class=\"grid\" x1=\"2%\" x2=\"2%\" y1=\"0\" y2=\"22\"/>"

-- how the rows begin
unfoldable pub rows_start : List ℕ
rows_start = codes "</g></defs></svg><th>9 of 10 loads<th>Median<th>No slack</tr></thead><tbody>"

-- how the row of a segment begins
unfoldable pub row_start : List ℕ
row_start = codes "<tr><td class=\"n\">"

-- how the picture of a row begins
unfoldable pub picture_start : List ℕ
picture_start = codes "<td class=\"b\"><svg class=\"bar\" width=\"100%\" height=\"22\"><use href=\""
    ++ codes "#decades\"/>"

-- how its table ends
unfoldable pub table_end : List ℕ
table_end = codes "</tbody></table>"

-- how the part ends
unfoldable pub rooms_end : List ℕ
rooms_end = codes "</section>"
