-- What refutes relations.
use Rattle.std.specs.Prelude.{ℕ, ◌-◌, ◌==◌, ◌++◌, List, [], ◌∷◌, codes, if◌then◌else◌, length, take}
use Rattle.std.specs.List.{flat_map}
use Rattle.markup.specs.Parts.{Fixed, Name, Number, parts_text}
use Rattle.page_rows.specs.declared.model_rows.BoxRow.{BoxRow}
use Rattle.page_rows.specs.Pages.{PageLists}
use Rattle.picture_parts.specs.Names.{label_text}
use Rattle.refute_picture.specs.declared.overlap_row.OverlapRow.{OverlapRow}
use Rattle.refute_picture.specs.Texts.{none_text, refutes_end, refutes_start, row_start}
use Rattle.refute_picture.specs.Texts.{second_start, table_end, table_start}
use Rattle.refute_picture.specs.declared.totals.Kind.TheVariants.{Before, Exclusive, Together}
use Rattle.refute_picture.specs.Totals.{count_of, totals_text}

-- the label of a box: a segment, or a task, whose events are empty
unfoldable pub task_label : List ℕ → List ℕ
task_label task = parts_text (Fixed (codes "<b><bdi>") ∷ Name task ∷ Fixed (codes "</bdi></b>") ∷ [])

abbrev pub box_label : BoxRow → List ℕ
box_label box = if length box.name.2 == 0 then task_label box.name.0 else label_text box.name

-- the label of the box with this number
abbrev pub label_if : ℕ → BoxRow → List ℕ
label_if number box = if box.number == number then box_label box else []

abbrev pub label_at : List BoxRow → ℕ → List ℕ
label_at boxes number = flat_map (label_if number) boxes

-- the load in which two boxes overlap first
unfoldable pub witness_text : OverlapRow → List ℕ
witness_text row = parts_text
    (Fixed (codes "</div><td class=\"w\"><bdi>") ∷ Name row.request
    ∷ Fixed (codes "</bdi> <small>day ") ∷ Number row.day ∷ Fixed (codes ", number ")
    ∷ Number row.index ∷ Fixed (codes "</small><td>") ∷ Number row.both ∷ Fixed (codes "</tr>")
    ∷ [])

-- the row of two boxes
unfoldable pub row_text : List BoxRow → OverlapRow → List ℕ
row_text boxes row = row_start ++ label_at boxes row.first ++ second_start
    ++ label_at boxes row.second ++ witness_text row

-- how many pairs of boxes are behind the first 12; nothing where none is
unfoldable pub count_text : ℕ → List ℕ
count_text count = parts_text
    (Fixed (codes "<p class=\"note\">Further overlaps, whose shorter ones last no longer: ")
    ∷ Number count ∷ Fixed (codes ".</p>") ∷ [])

abbrev pub more_text : ℕ → List ℕ
more_text count = if count == 0 then [] else count_text count

-- the table of the first 12 of these pairs
unfoldable pub full_table : PageLists → List OverlapRow → List ℕ
full_table p rows = table_start ++ flat_map (row_text p.boxes) (take 12 rows) ++ table_end
    ++ more_text (length rows - 12)

abbrev pub table_text : PageLists → List OverlapRow → List ℕ
table_text p rows = if length rows == 0 then none_text else full_table p rows

-- the part on what refutes
unfoldable pub refutes_text : PageLists → List OverlapRow → List ℕ
refutes_text p rows = refutes_start ++ table_text p rows
    ++ totals_text (count_of Together p) (count_of Before p) (count_of Exclusive p) (length rows)
    ++ refutes_end
