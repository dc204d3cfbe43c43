-- The evidence of traces by number, under the texts of a catalogue, and that it is the evidence of
-- the kept traces.
use Rattle.std.specs.Prelude.{◌≡◌, ℕ, ◌<◌, List, [], ◌∷◌, length, map, slice_get}
use Rattle.book_laws.specs.Shown.{AreShown}
use Rattle.certificate_rows.specs.Orders.{name_number_cmp, numbered_name, numbered_task}
use Rattle.certificate_rows.specs.Orders.{task_number_cmp}
use Rattle.day_partitions.specs.Books.{BookState, IsBook, KeptDay, all_traces}
use Rattle.evidence_rules.specs.EvidenceRows.{AreRows, Rows}
use Rattle.evidence_rules.specs.RowTexts.{Fields, evidence_text, fields_at, name_fields}
use Rattle.evidence_rules.specs.declared.choice.Choice.{Choice}
use Rattle.name_meetings.specs.Tables as name_tables
use Rattle.name_rows.specs.Kinds.{between_at}
use Rattle.segment_names.specs.Known.{Known}
use Rattle.segment_names.specs.Limits.{IsKept}
use Rattle.session_rules.specs.EvidenceTexts.{IsEvidenceText}
use Rattle.session_rules.specs.KeptTraces.{Kept}
use Rattle.task_rows.specs.Kinds.{sharing_at}
use Rattle.task_rows.specs.Tables as task_tables
use Rattle.trace_types.specs.Listing.{ListsExactly}
use Rattle.trace_types.specs.declared.named_trace.NamedTrace.{NamedTrace}
use Rattle.evidence_printing.specs.inner.Places.{places_of}

-- what rows name, of names and tasks with these numbers and of the traces of days
abbrev pub numbered_fields : Known → List KeptDay → List ℕ → List ℕ → Fields
numbered_fields known days names tasks = record {
  name = λ place. fields_at name_fields (slice_get (map (numbered_name known) names) place);
  task = λ place. fields_at (λ t. t ∷ []) (slice_get (map (numbered_task known) tasks) place);
  trace = λ index. fields_at (λ fields. fields) (slice_get (places_of days) index);
}

-- the tables have the figures of the names and tasks of a catalogue in the traces
pub record AreTablesOf (known : Known) (traces : List NamedTrace)
    (meetings : name_tables.TableState) (sharings : task_tables.TableState) : Type 0 where
  pub names : meetings.names ≡ length known.names
  pub tasks : sharings.tasks ≡ length known.tasks
  pub met : name_tables.IsTableOf (length known.names) traces meetings
  pub shared : task_tables.IsTableOf (length known.tasks) traces sharings

-- the name, or task, has this number, and some trace has the name, or an element in the task
abbrev pub HasName : Known → name_tables.TableState → ℕ → Type 0
HasName known meetings n =
    (n < length known.names) × (0 < (name_tables.figures_of meetings n n).traces)

abbrev pub HasTask : Known → task_tables.TableState → ℕ → Type 0
HasTask known sharings n =
    (n < length known.tasks) × (0 < (task_tables.figures_of sharings n n).traces)

-- these are the numbers of all such names and tasks, in the order of their texts
pub record AreNumbersOf (known : Known) (meetings : name_tables.TableState)
    (sharings : task_tables.TableState) (names tasks : List ℕ) : Type 0 where
  pub names_are : ListsExactly (name_number_cmp known) (HasName known meetings) names
  pub tasks_are : ListsExactly (task_number_cmp known) (HasTask known sharings) tasks

-- the rows are those of the names and tasks with these numbers
abbrev pub AreRowsOf : Choice → name_tables.TableState → task_tables.TableState → List ℕ → List ℕ
    → Rows → Type 0
AreRowsOf choice meetings sharings names tasks rows =
    AreRows choice (length names) (length tasks) (between_at meetings names)
    (sharing_at sharings tasks) rows

-- the text of such rows
abbrev pub numbered_text : Known → List KeptDay → List ℕ → List ℕ → Rows → List ℕ
numbered_text known days names tasks rows =
    evidence_text (length (all_traces days)) (numbered_fields known days names tasks) rows

-- the text of the kept names and tasks, in their order, is that of the kept traces
abbrev pub EvidenceIsShown : Type 0
EvidenceIsShown = (known : Known) (b : BookState) (choice : Choice)
    (meetings : name_tables.TableState) (sharings : task_tables.TableState)
    (names tasks : List ℕ) (rows : Rows) (kept : List Kept) → IsKept known → IsBook b
    → AreTablesOf known (all_traces b.days) meetings sharings
    → AreNumbersOf known meetings sharings names tasks
    → AreRowsOf choice meetings sharings names tasks rows
    → AreShown known (all_traces b.days) kept
    → IsEvidenceText choice kept (numbered_text known b.days names tasks rows)
