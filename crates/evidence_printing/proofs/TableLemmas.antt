-- The figures of names and tasks by their places in two lists of numbers.
use Rattle.std.proofs.Common.{◌≡◌, ℕ, ◌<◌, ◌==◌, List, length, get_or, slice_index}
use Rattle.std.proofs.lemmas.List.Elements.{Contains-get_or}
use Rattle.evidence_rules.specs.Meetings.{AreMeetingFigures, meetings_from}
use Rattle.evidence_rules.specs.Sharings.{AreSharings}
use Rattle.evidence_rules.specs.declared.between.Between.{Between}
use Rattle.evidence_rules.specs.declared.sharing.Sharing.{Sharing}
use Rattle.name_meetings.specs.Tables as name_tables
use Rattle.name_rows.specs.Kinds.{between_at}
use Rattle.segment_names.specs.Known.{Known}
use Rattle.task_rows.specs.Kinds.{sharing_at}
use Rattle.task_rows.specs.Tables as task_tables
use Rattle.trace_types.specs.Parts.{by_number}
use Rattle.trace_types.specs.declared.named_trace.NamedTrace.{NamedTrace}
use Rattle.evidence_printing.specs.inner.Numbered.{AreNumbersOf, AreTablesOf}

-- the figures of each two names of a list of numbers, and of each two tasks, by places
abbrev pub AreFiguresAt : List NamedTrace → List ℕ → (ℕ → ℕ → Between) → Type 0
AreFiguresAt traces names between = (i j : ℕ) → i < length names → j < length names → AreMeetingFigures (meetings_from by_number (λ (m n : ℕ). m == n) (slice_index names i) (slice_index names j) 0 traces) (between i j)

abbrev pub AreSharingsAt : List NamedTrace → List ℕ → (ℕ → ℕ → Sharing) → Type 0
AreSharingsAt traces tasks sharing = (i j : ℕ) → i < length tasks → j < length tasks → AreSharings by_number traces (slice_index tasks i) (slice_index tasks j) (sharing i j)

module _ (known : Known) (traces : List NamedTrace) (meetings : name_tables.TableState) (sharings : task_tables.TableState) (names tasks : List ℕ) (tables : AreTablesOf known traces meetings sharings) (numbers : AreNumbersOf known meetings sharings names tasks) where
  name_below : (i : ℕ) → i < length names → slice_index names i < length known.names
  name_below i lt = ((numbers.names_are.exactly (get_or names i 0)).0 (Contains-get_or names i 0 lt)).0

  task_below : (i : ℕ) → i < length tasks → slice_index tasks i < length known.tasks
  task_below i lt = ((numbers.tasks_are.exactly (get_or tasks i 0)).0 (Contains-get_or tasks i 0 lt)).0

  pub figures_at : AreFiguresAt traces names (between_at meetings names)
  figures_at i j li lj = tables.met (slice_index names i) (slice_index names j) (name_below i li) (name_below j lj)

  pub sharings_at : AreSharingsAt traces tasks (sharing_at sharings tasks)
  sharings_at i j li lj = tables.shared (slice_index tasks i) (slice_index tasks j) (task_below i li) (task_below j lj)
