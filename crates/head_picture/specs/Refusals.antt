-- What was refused, by reason.
use Rattle.std.specs.Prelude.{ℕ, ◌||◌, ◌==◌, ◌++◌, List, [], ◌∷◌, bytes_eq, codes, if◌then◌else◌, length}
use Rattle.std.specs.Prelude.{nat_le}
use Rattle.std.specs.List.{count_by, flat_map, list_any}
use Rattle.markup.specs.Parts.{Fixed, Name, Number, parts_text}
use Rattle.page_rows.specs.declared.report_rows.RefusedRow.{RefusedRow}

-- the reasons that were seen, with one more; at most 12
abbrev pub with_reason : List (List ℕ) → List ℕ → List (List ℕ)
with_reason seen reason =
    if list_any (bytes_eq reason) seen || nat_le 12 (length seen) then seen else seen ++ reason ∷ []

-- those with the reasons of rows, in the order of first sight
abbrev pub with_rows : List (List ℕ) → List RefusedRow → List (List ℕ)
with_rows seen [] = seen
with_rows seen (row ∷ rows) = with_rows (with_reason seen row.reason) rows

-- the reasons of rows, each once
abbrev pub reasons_of : List RefusedRow → List (List ℕ)
reasons_of rows = with_rows [] rows

-- how many rows have a reason
abbrev pub count_of : List RefusedRow → List ℕ → ℕ
count_of rows reason = count_by (λ (row : RefusedRow). bytes_eq reason row.reason) rows

-- a reason, and how many traces were refused for it
unfoldable pub reason_start : (count : ℕ) → List ℕ → List ℕ
reason_start count reason = parts_text
    (Fixed (codes "<li><bdi>") ∷ Name reason ∷ Fixed (codes "</bdi>: ") ∷ Number count ∷ [])

-- a trace that was refused
unfoldable pub trace_text : RefusedRow → List ℕ
trace_text row = parts_text
    (Fixed (codes ", the first <bdi>") ∷ Name row.request ∷ Fixed (codes "</bdi> at line ")
    ∷ Number row.line ∷ [])

-- the first trace that was refused for a reason
abbrev pub first_text : List ℕ → List RefusedRow → List ℕ
first_text reason [] = []
first_text reason (row ∷ rows) =
    if bytes_eq reason row.reason then trace_text row else first_text reason rows

-- what is said of a reason
unfoldable pub reason_text : List RefusedRow → List ℕ → List ℕ
reason_text rows reason =
    reason_start (count_of rows reason) reason ++ first_text reason rows ++ codes "</li>"

-- how many traces were refused
unfoldable pub refused_start : (count : ℕ) → List ℕ
refused_start count = parts_text
    (Fixed (codes "<div class=\"refused\">Refused traces: ") ∷ Number count ∷ Fixed (codes "<ul>")
    ∷ [])

-- the same, with their reasons
unfoldable pub refused_list : List RefusedRow → List ℕ
refused_list rows = refused_start (length rows) ++ flat_map (reason_text rows) (reasons_of rows)
    ++ codes "</ul></div>"

-- the same; nothing where none was refused
abbrev pub refused_text : List RefusedRow → List ℕ
refused_text rows = if length rows == 0 then [] else refused_list rows
