-- The fields of names and tasks by their places in two lists, and of traces by their indices.
use Rattle.std.specs.Prelude.{ℕ, ◌<◌, List, [], ◌∷◌, length, All, slice_get, decimal, ⊤}
use Rattle.std.specs.Borrow.{Bor}
use Rattle.evidence_rules.specs.declared.between.Between.{Between}
use Rattle.evidence_rules.specs.declared.pair_row.PairRow.{PairRow}
use Rattle.evidence_rules.specs.declared.sharing.Sharing.{Sharing}
use Rattle.name_rows.specs.declared.kind.NameKind.{NameKind}
use Rattle.name_rows.specs.declared.kind.NameKind.TheVariants as name_kind
use Rattle.task_rows.specs.declared.kind.TaskKind.{TaskKind}
use Rattle.task_rows.specs.declared.kind.TaskKind.TheVariants as task_kind
use Rattle.trace_types.specs.Segments.{SegmentName}
use Rattle.evidence_rules.specs.RowTexts.{Fields, exclusion_row, fields_at, name_fields}
use Rattle.evidence_rules.specs.RowTexts.{nearly_exclusion_row}
use Rattle.evidence_rules.specs.RowTexts.{nearly_order_row, nearly_pipe_row, order_row, pipe_row}
use Rattle.evidence_rules.specs.EvidenceRows.{Rows}
use Rattle.evidence_text.specs.declared.evidence_rows.EvidenceRows.{EvidenceRows}
use Rattle.evidence_text.specs.declared.naming.Naming.{Naming}
use Rattle.evidence_text.specs.declared.naming.TracePlace.{TracePlace}

-- a trace is its day, its index among those of its day, and its request
abbrev pub trace_fields : TracePlace → List (List ℕ)
trace_fields t = decimal t.day ∷ decimal t.index ∷ t.request.now ∷ []

-- what rows name, as fields
abbrev pub fields_of : Naming → Fields
fields_of n = record {
  name = λ place. fields_at (λ (x : Bor SegmentName). name_fields x.now) (slice_get n.names.now place);
  task = λ place. fields_at (λ (x : Bor (List ℕ)). x.now ∷ []) (slice_get n.tasks.now place);
  trace = λ index. fields_at trace_fields (slice_get n.traces.now index);
}

-- the row of a kind
abbrev pub name_row : Fields → NameKind → PairRow Between → List ℕ
name_row fields name_kind.Order row = order_row fields row
name_row fields name_kind.Exclusion row = exclusion_row fields row
name_row fields name_kind.NearlyOrder row = nearly_order_row fields row
name_row fields name_kind.NearlyExclusion row = nearly_exclusion_row fields row

abbrev pub task_row : Fields → TaskKind → PairRow Sharing → List ℕ
task_row fields task_kind.Pipe row = pipe_row fields row
task_row fields task_kind.NearlyPipe row = nearly_pipe_row fields row

-- the first trace that a row of a kind names, if it names one
abbrev pub HasTrace : ℕ → NameKind → Between → Type 0
HasTrace traces name_kind.Order f = ⊤
HasTrace traces name_kind.Exclusion f = ⊤
HasTrace traces name_kind.NearlyOrder f = f.first_early < traces
HasTrace traces name_kind.NearlyExclusion f = f.first_both < traces

abbrev pub HasTaskTrace : ℕ → TaskKind → Sharing → Type 0
HasTaskTrace traces task_kind.Pipe f = ⊤
HasTaskTrace traces task_kind.NearlyPipe f = f.first_refuted < traces

-- what the row names is there
pub record AreNamed (n : Naming) (kind : NameKind) (row : PairRow Between) : Type 0 where
  pub first : row.first < length n.names.now
  pub second : row.second < length n.names.now
  pub trace : HasTrace (length n.traces.now) kind row.figures

pub record AreTasksNamed (n : Naming) (kind : TaskKind) (row : PairRow Sharing) : Type 0 where
  pub first : row.first < length n.tasks.now
  pub second : row.second < length n.tasks.now
  pub trace : HasTaskTrace (length n.traces.now) kind row.figures

-- the rows of each kind, as lists
abbrev pub rows_of : EvidenceRows → Rows
rows_of r = record {
  orders = r.orders.items;
  exclusions = r.exclusions.items;
  pipes = r.pipes.items;
  nearly_orders = r.nearly_orders.items;
  nearly_exclusions = r.nearly_exclusions.items;
  nearly_pipes = r.nearly_pipes.items;
}

-- what all rows name is there
pub record AreRowsNamed (n : Naming) (rows : Rows) : Type 0 where
  pub orders : All (AreNamed n name_kind.Order) rows.orders
  pub exclusions : All (AreNamed n name_kind.Exclusion) rows.exclusions
  pub pipes : All (AreTasksNamed n task_kind.Pipe) rows.pipes
  pub nearly_orders : All (AreNamed n name_kind.NearlyOrder) rows.nearly_orders
  pub nearly_exclusions : All (AreNamed n name_kind.NearlyExclusion) rows.nearly_exclusions
  pub nearly_pipes : All (AreTasksNamed n task_kind.NearlyPipe) rows.nearly_pipes
