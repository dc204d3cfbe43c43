-- Which rows are drawn: relations as arrows, mutual exclusion as dashed lines, pipelines as thick
-- ones.
use Rattle.std.specs.Prelude.{ℕ, ◌==◌, ◌&&◌, List, [], ◌∷◌, Bool, bytes_eq, if◌then◌else◌, nat_le}
use Rattle.std.specs.Prelude.{nat_lt, not}
use Rattle.std.specs.List.{flat_map}
use Rattle.page_rows.specs.declared.model_rows.BetweenRow.{BetweenRow}
use Rattle.page_rows.specs.declared.model_rows.BoxRow.{BoxRow}
use Rattle.page_rows.specs.declared.model_rows.PipeRow.{PipeRow}

-- two boxes of the graph, which has so many
abbrev pub are_boxes : (count first second : ℕ) → Bool
are_boxes count first second =
    nat_lt first count && nat_lt second count && not (first == second)

-- a relation: in each load with names of both boxes, the names of the first happen before those of
-- the second
abbrev pub is_relation : (count : ℕ) → BetweenRow → Bool
is_relation count row = are_boxes count row.first row.second && nat_lt 0 row.both
    && nat_le row.both row.before

-- the relation of a row, if it is one; and those of all rows
abbrev pub relation_of : (count : ℕ) → BetweenRow → List (ℕ × ℕ)
relation_of count row = if is_relation count row then (row.first, row.second) ∷ [] else []

abbrev pub relations_of : (count : ℕ) → List BetweenRow → List (ℕ × ℕ)
relations_of count rows = flat_map (relation_of count) rows

-- two boxes whose names are mutually exclusive, all of them; of both orders the rising one
abbrev pub is_exclusive : (count : ℕ) → BetweenRow → Bool
is_exclusive count row = are_boxes count row.first row.second && nat_lt row.first row.second
    && nat_lt 0 row.both && nat_le row.both row.exclusive

-- the number of the first box of a task; the count where there is none
abbrev pub box_of : (count : ℕ) → List BoxRow → List ℕ → ℕ
box_of count [] task = count
box_of count (box ∷ boxes) task =
    if bytes_eq box.name.0 task then box.number else box_of count boxes task

-- a pipeline between the first boxes of its tasks, if they are two boxes of the graph; and those of
-- all rows
abbrev pub pair_of : (count first second : ℕ) → List (ℕ × ℕ)
pair_of count first second =
    if are_boxes count first second then (first, second) ∷ [] else []

abbrev pub pipe_of : (count : ℕ) → List BoxRow → PipeRow → List (ℕ × ℕ)
pipe_of count boxes row =
    pair_of count (box_of count boxes row.first) (box_of count boxes row.second)

abbrev pub pipes_of : (count : ℕ) → List BoxRow → List PipeRow → List (ℕ × ℕ)
pipes_of count boxes rows = flat_map (pipe_of count boxes) rows
