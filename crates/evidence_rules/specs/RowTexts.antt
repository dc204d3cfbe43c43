-- The printed rows of the evidence: a header, and a row for each pair that is told, over what rows
-- name. Gaps are in nanoseconds, and may be negative.
use Rattle.std.specs.Prelude.{ℕ, ◌+◌, ◌-◌, List, [], ◌∷◌, ◌++◌, length, flat_map, codes, decimal}
use Rattle.std.specs.Prelude.{Option, Some, None}
use Rattle.std.specs.Fmt.{signed_decimal}
use Rattle.text_rows.specs.Rows.{figure, row_of}
use Rattle.trace_types.specs.Segments.{SegmentName}
use Rattle.evidence_rules.specs.EvidenceRows.{Rows}
use Rattle.evidence_rules.specs.declared.between.Between.{Between}
use Rattle.evidence_rules.specs.declared.pair_row.PairRow.{PairRow}
use Rattle.evidence_rules.specs.declared.sharing.Sharing.{Sharing}

-- what rows name, as fields: a name by its place, a task by its place, and a trace by its index
pub record Fields : Type 0 where
  pub name : ℕ → List (List ℕ)
  pub task : ℕ → List (List ℕ)
  pub trace : ℕ → List (List ℕ)

-- a name is its task, its start event and its end event
abbrev pub name_fields : SegmentName → List (List ℕ)
name_fields n = n.0 ∷ n.1 ∷ n.2 ∷ []

-- the fields of what stands there; of nothing none
abbrev pub fields_at : {X : Type 0} → (X → List (List ℕ)) → Option X → List (List ℕ)
fields_at fields None = []
fields_at fields (Some x) = fields x

-- the fields of the two names of a row, and of the two tasks
abbrev pub names_of : Fields → PairRow Between → List (List ℕ)
names_of fields row = fields.name row.first ++ fields.name row.second

abbrev pub tasks_of : Fields → PairRow Sharing → List (List ℕ)
tasks_of fields row = fields.task row.first ++ fields.task row.second

-- `hb`, both names, how many traces have both, and the least and the greatest gap
abbrev pub order_row : Fields → PairRow Between → List ℕ
order_row fields row =
    row_of (codes "hb" ∷ names_of fields row ++ decimal row.figures.traces
    ∷ signed_decimal row.figures.least ∷ signed_decimal row.figures.greatest ∷ [])

-- `mx`, both names, how many traces have both, how many of them do not refute that the first
-- happens before the second, how many do not refute the other order, and the least gap between the
-- two in whichever order they come
abbrev pub exclusion_row : Fields → PairRow Between → List ℕ
exclusion_row fields row =
    row_of (codes "mx" ∷ names_of fields row ++ decimal row.figures.traces
    ∷ decimal (row.figures.traces - row.figures.early)
    ∷ decimal (row.figures.traces - row.figures.turned)
    ∷ signed_decimal row.figures.nearest ∷ [])

-- `pipe`, both tasks, in how many traces they share an element, and how many elements they share
abbrev pub pipe_row : Fields → PairRow Sharing → List ℕ
pipe_row fields row =
    row_of (codes "pipe" ∷ tasks_of fields row ++ decimal row.figures.traces
    ∷ decimal row.figures.elements ∷ [])

-- `nearly`, the kind of the relation, its two sides, how many traces have both, how many of these
-- refute it, and the first that does
abbrev pub nearly_row : List ℕ → List (List ℕ) → ℕ → ℕ → List (List ℕ) → List ℕ
nearly_row kind sides traces refuted trace =
    row_of (codes "nearly" ∷ kind ∷ sides ++ decimal traces ∷ decimal refuted ∷ trace)

abbrev pub nearly_order_row : Fields → PairRow Between → List ℕ
nearly_order_row fields row =
    nearly_row (codes "before") (names_of fields row) row.figures.traces row.figures.early
    (fields.trace row.figures.first_early)

abbrev pub nearly_exclusion_row : Fields → PairRow Between → List ℕ
nearly_exclusion_row fields row =
    nearly_row (codes "exclusive") (names_of fields row) row.figures.traces row.figures.both
    (fields.trace row.figures.first_both)

abbrev pub nearly_pipe_row : Fields → PairRow Sharing → List ℕ
nearly_pipe_row fields row =
    nearly_row (codes "pipe") (tasks_of fields row) row.figures.traces row.figures.refuted
    (fields.trace row.figures.first_refuted)

-- how many relations are told that few traces refute
abbrev pub nearly_count : Rows → ℕ
nearly_count rows = length rows.nearly_orders + (length rows.nearly_exclusions
    + length rows.nearly_pipes)

-- `evidence`, how many traces are kept, and how many rows of each kind follow
abbrev pub head_row : ℕ → Rows → List ℕ
head_row traces rows =
    row_of (codes "evidence"
    ∷ figure (codes "traces") traces
    ∷ figure (codes "hb") (length rows.orders)
    ∷ figure (codes "mx") (length rows.exclusions)
    ∷ figure (codes "pipe") (length rows.pipes)
    ∷ figure (codes "nearly") (nearly_count rows) ∷ [])

-- the rows of the relations that are told
abbrev pub told_text : Fields → Rows → List ℕ
told_text fields rows =
    flat_map (order_row fields) rows.orders
    ++ (flat_map (exclusion_row fields) rows.exclusions
    ++ flat_map (pipe_row fields) rows.pipes)

-- the rows of those that few traces refute
abbrev pub nearly_text : Fields → Rows → List ℕ
nearly_text fields rows =
    flat_map (nearly_order_row fields) rows.nearly_orders
    ++ (flat_map (nearly_exclusion_row fields) rows.nearly_exclusions
    ++ flat_map (nearly_pipe_row fields) rows.nearly_pipes)

-- the header, and the rows of each kind
abbrev pub evidence_text : ℕ → Fields → Rows → List ℕ
evidence_text traces fields rows =
    head_row traces rows ++ (told_text fields rows ++ nearly_text fields rows)
