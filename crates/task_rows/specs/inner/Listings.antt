-- The rows of one pair of places, and of one place with others.
use Rattle.std.specs.Prelude.{ℕ, List, [], ◌∷◌, flat_map, if◌then◌else◌}
use Rattle.std.specs.List.{range_with_len}
use Rattle.evidence_rules.specs.EvidenceRows.{supported}
use Rattle.evidence_rules.specs.declared.sharing.Sharing.{Sharing}
use Rattle.evidence_rules.specs.declared.pair_row.PairRow.{PairRow}
use Rattle.task_rows.specs.Tables.{TableState}
use Rattle.task_rows.specs.Kinds.{sharing_at, is_told, traces_of}
use Rattle.task_rows.specs.declared.kind.TaskKind.{TaskKind}

-- the row of two places where it is told and supported
abbrev pub rows_of_pair : TableState → List ℕ → TaskKind → ℕ → ℕ → ℕ → List (PairRow Sharing)
rows_of_pair table tasks kind least a b =
    if supported traces_of least (is_told kind) a b (sharing_at table tasks a b)
    then record { first = a; second = b; figures = sharing_at table tasks a b } ∷ [] else []

-- those of one place with the first so many
abbrev pub rows_of_place : TableState → List ℕ → TaskKind → ℕ → ℕ → ℕ → List (PairRow Sharing)
rows_of_place table tasks kind least count a =
    flat_map (rows_of_pair table tasks kind least a) (range_with_len 0 count)
