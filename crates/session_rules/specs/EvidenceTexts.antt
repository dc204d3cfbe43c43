-- The printed text of the evidence of kept traces: what stands behind each relation that they leave,
-- and the relations that few of them refute. Names and tasks are by their places in two lists, kept
-- traces by their index, all counted from 0.
use Rattle.std.specs.Prelude.{◌≡◌, ℕ, List, [], ◌∷◌, length, take, decimal, slice_get, Some}
use Rattle.std.specs.Cmp.Lexicographic.{slice_cmp}
use Rattle.std.specs.Ordering.{nat_cmp}
use Rattle.evidence_rules.specs.EvidenceRows.{AreRows, Rows}
use Rattle.evidence_rules.specs.Meetings.{AreMeetingFigures, meetings_from}
use Rattle.evidence_rules.specs.RowTexts.{Fields, evidence_text, fields_at, name_fields}
use Rattle.evidence_rules.specs.Sharings.{AreSharings}
use Rattle.evidence_rules.specs.declared.between.Between.{Between}
use Rattle.evidence_rules.specs.declared.choice.Choice.{Choice}
use Rattle.evidence_rules.specs.declared.sharing.Sharing.{Sharing}
use Rattle.segment_names.specs.Known.{same_name}
use Rattle.trace_types.specs.Listing.{ListsExactly}
use Rattle.trace_types.specs.Pipelines.{RefutesUnshared}
use Rattle.trace_types.specs.Segments.{SegmentName}
use Rattle.trace_types.specs.Surviving.{IsRefuted}
use Rattle.session_rules.specs.KeptTraces.{Kept, by_kept, day_of, traces_on}
use Rattle.session_rules.specs.ReportTexts.{AreKeptNames}

-- exactly the tasks that handle an element in some kept trace, each once, in order: a task shares
-- such an element with itself
abbrev pub AreKeptTasks : List Kept → List (List ℕ) → Type 0
AreKeptTasks kept tasks = ListsExactly (slice_cmp nat_cmp)
    (λ t. IsRefuted (RefutesUnshared by_kept t t) kept) tasks

-- a kept trace by its index: its day, its index among those of its day, and its request
abbrev pub place_fields : List Kept → ℕ → List (List ℕ)
place_fields kept index =
    fields_at (λ k. decimal (day_of k) ∷ decimal (length (traces_on (day_of k) (take index kept)))
    ∷ k.trace.request ∷ []) (slice_get kept index)

-- what rows name, of these names and tasks by their places and of kept traces by their index
abbrev pub kept_fields : List SegmentName → List (List ℕ) → List Kept → Fields
kept_fields names tasks kept = record {
  name = λ place. fields_at name_fields (slice_get names place);
  task = λ place. fields_at (λ t. t ∷ []) (slice_get tasks place);
  trace = place_fields kept;
}

-- these are the figures of each two names in kept traces, by the places of the two
abbrev pub AreKeptFigures : List Kept → List SegmentName → (ℕ → ℕ → Between) → Type 0
AreKeptFigures kept names between = (i j : ℕ) (a b : SegmentName) → slice_get names i ≡ Some a
    → slice_get names j ≡ Some b
    → AreMeetingFigures (meetings_from by_kept same_name a b 0 kept) (between i j)

-- these are the figures of each two tasks in kept traces, by the places of the two
abbrev pub AreKeptSharings : List Kept → List (List ℕ) → (ℕ → ℕ → Sharing) → Type 0
AreKeptSharings kept tasks sharing = (i j : ℕ) (t u : List ℕ) → slice_get tasks i ≡ Some t
    → slice_get tasks j ≡ Some u → AreSharings by_kept kept t u (sharing i j)

-- the bytes are the text of the evidence of kept traces
pub record IsEvidenceText (choice : Choice) (kept : List Kept) (bytes : List ℕ) : Type 0 where
  pub names : List SegmentName
  pub tasks : List (List ℕ)
  pub names_are : AreKeptNames kept names
  pub tasks_are : AreKeptTasks kept tasks
  pub between : ℕ → ℕ → Between
  pub sharing : ℕ → ℕ → Sharing
  pub met : AreKeptFigures kept names between
  pub shared : AreKeptSharings kept tasks sharing
  pub rows : Rows
  pub are : AreRows choice (length names) (length tasks) between sharing rows
  pub text : bytes ≡ evidence_text (length kept) (kept_fields names tasks kept) rows
