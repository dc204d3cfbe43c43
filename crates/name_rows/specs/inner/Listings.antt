-- The rows of one pair of places, and of one place with others.
use Rattle.std.specs.Prelude.{ℕ, List, [], ◌∷◌, flat_map, if◌then◌else◌}
use Rattle.std.specs.List.{range_with_len}
use Rattle.evidence_rules.specs.EvidenceRows.{supported}
use Rattle.evidence_rules.specs.declared.between.Between.{Between}
use Rattle.evidence_rules.specs.declared.pair_row.PairRow.{PairRow}
use Rattle.name_meetings.specs.Tables.{TableState}
use Rattle.name_rows.specs.Kinds.{between_at, is_told, traces_of}
use Rattle.name_rows.specs.declared.kind.NameKind.{NameKind}

-- the row of two places with these figures, where it is told and supported
abbrev pub row_told : NameKind → ℕ → ℕ → ℕ → Between → List (PairRow Between)
row_told kind least a b figures = if supported traces_of least (is_told kind) a b figures
    then record { first = a; second = b; figures = figures } ∷ [] else []

-- that of two places of a list of names
abbrev pub rows_of_pair : TableState → List ℕ → NameKind → ℕ → ℕ → ℕ → List (PairRow Between)
rows_of_pair table names kind least a b = row_told kind least a b (between_at table names a b)

-- those of one place with the first so many
abbrev pub rows_of_place : TableState → List ℕ → NameKind → ℕ → ℕ → ℕ → List (PairRow Between)
rows_of_place table names kind least count a =
    flat_map (rows_of_pair table names kind least a) (range_with_len 0 count)
