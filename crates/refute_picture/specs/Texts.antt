-- Fixed texts of the page.
use Rattle.std.specs.Prelude.{ℕ, ◌++◌, List, codes}

-- how the part begins
unfoldable pub refutes_start : List ℕ
refutes_start = codes "<section id=\"why\"><h2>What refutes a relation?</h2>"

-- how its table begins
unfoldable pub table_start : List ℕ
table_start = codes "<table class=\"rank wit\"><thead><tr><th class=\"n\">These two run beside each"
    ++ codes " other<th class=\"w\">since they overlap in this load, first of all<th>Pairs of names"
    ++ codes "</tr></thead><tbody>"

-- what stands between the labels of two boxes
unfoldable pub second_start : List ℕ
second_start = codes "</div><div>"

-- how its table ends
unfoldable pub table_end : List ℕ
table_end = codes "</tbody></table>"

-- what stands in place of a table without rows
unfoldable pub none_text : List ℕ
none_text = codes "<p class=\"note\">No two segments overlap in any load.</p>"

-- how the part ends
unfoldable pub refutes_end : List ℕ
refutes_end = codes "</section>"

-- how the row of two boxes begins
unfoldable pub row_start : List ℕ
row_start = codes "<tr><td class=\"n\"><div>"
