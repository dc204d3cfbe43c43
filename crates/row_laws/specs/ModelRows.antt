-- The rows of the evidence of kept traces name the relations of their model: statements that laws
-- prove.
use Rattle.std.specs.Prelude.{◌≡◌, ℕ, ◌≤◌, false, List, length}
use Rattle.digest_facts.specs.Digests.{empty_digest}
use Rattle.evidence_rules.specs.declared.choice.Choice.{Choice}
use Rattle.session_rules.specs.EvidenceTexts.{IsEvidenceText}
use Rattle.session_rules.specs.KeptTraces.{Kept, by_kept}
use Rattle.session_rules.specs.ModelTexts.{IsModelText}
use Rattle.trace_rules.specs.Pipes.{IsPipeline}
use Rattle.trace_types.specs.NameOrder.{name_cmp}
use Rattle.trace_types.specs.Pipelines.{RefutesUnshared}
use Rattle.trace_types.specs.Refuting.{RefutesApart}
use Rattle.trace_types.specs.Relations.{ExcludesUnordered, HappensBefore}
use Rattle.trace_types.specs.Segments.{SegmentName}
use Rattle.row_laws.specs.NamedRows.{NameExactly}
use Rattle.row_laws.specs.TraceCounts.{AreAtLeast}

-- two names, and two tasks
abbrev pub TwoNames : Type 0
TwoNames = SegmentName × SegmentName

abbrev pub TwoTasks : Type 0
TwoTasks = List ℕ × List ℕ

-- in the model of kept traces the first name happens before the second
abbrev pub IsModelOrder : List Kept → TwoNames → Type 0
IsModelOrder kept pair = HappensBefore by_kept kept pair.0 pair.1

-- in it the two names, in name order, are mutually exclusive with no fixed order
abbrev pub IsModelExclusion : List Kept → TwoNames → Type 0
IsModelExclusion kept pair = ExcludesUnordered by_kept name_cmp kept pair.0 pair.1

-- in it the two tasks are a pipeline
abbrev pub IsModelPipe : List Kept → TwoTasks → Type 0
IsModelPipe kept pair = IsPipeline by_kept kept pair.0 pair.1

-- at least so many kept traces have both names
abbrev pub NamesMeet : ℕ → List Kept → TwoNames → Type 0
NamesMeet least kept pair = AreAtLeast (RefutesApart by_kept pair.0 pair.1) least kept

-- in at least so many kept traces an element is in both tasks
abbrev pub TasksMeet : ℕ → List Kept → TwoTasks → Type 0
TasksMeet least kept pair = AreAtLeast (RefutesUnshared by_kept pair.0 pair.1) least kept

-- where implied orders stay and one trace is enough, the rows of orders name those of the model
abbrev pub OrderRowsAreModel : Type 0
OrderRowsAreModel = (choice : Choice) (kept : List Kept) (bytes : List ℕ)
    (text : IsEvidenceText choice kept bytes) → choice.reduced ≡ false → choice.least ≤ 1
    → NameExactly text.names (IsModelOrder kept) text.rows.orders

-- where one trace is enough, the rows of exclusions name those of the model
abbrev pub ExclusionRowsAreModel : Type 0
ExclusionRowsAreModel = (choice : Choice) (kept : List Kept) (bytes : List ℕ)
    (text : IsEvidenceText choice kept bytes) → choice.least ≤ 1
    → NameExactly text.names (IsModelExclusion kept) text.rows.exclusions

-- and those of pipelines the pipelines of the model
abbrev pub PipeRowsAreModel : Type 0
PipeRowsAreModel = (choice : Choice) (kept : List Kept) (bytes : List ℕ)
    (text : IsEvidenceText choice kept bytes) → choice.least ≤ 1
    → NameExactly text.tasks (IsModelPipe kept) text.rows.pipes

-- so where nothing is given the header tells as many relations of each kind as the first row of the
-- model
abbrev pub CountsAreModel : Type 0
CountsAreModel = (choice : Choice) (kept : List Kept) (bytes others : List ℕ)
    (text : IsEvidenceText choice kept bytes) (model : IsModelText empty_digest kept others)
    → choice.reduced ≡ false → choice.least ≤ 1
    → (length text.rows.orders ≡ length model.figures.hb)
    × (length text.rows.exclusions ≡ length model.figures.mx)
    × (length text.rows.pipes ≡ length model.figures.pipe)

-- where more are asked for, the rows name those relations of the model that as many traces support
abbrev pub OrderRowsAreSupported : Type 0
OrderRowsAreSupported = (choice : Choice) (kept : List Kept) (bytes : List ℕ)
    (text : IsEvidenceText choice kept bytes) → choice.reduced ≡ false
    → NameExactly text.names (λ pair. IsModelOrder kept pair × NamesMeet choice.least kept pair)
    text.rows.orders

abbrev pub ExclusionRowsAreSupported : Type 0
ExclusionRowsAreSupported = (choice : Choice) (kept : List Kept) (bytes : List ℕ)
    (text : IsEvidenceText choice kept bytes)
    → NameExactly text.names (λ pair. IsModelExclusion kept pair × NamesMeet choice.least kept pair)
    text.rows.exclusions

abbrev pub PipeRowsAreSupported : Type 0
PipeRowsAreSupported = (choice : Choice) (kept : List Kept) (bytes : List ℕ)
    (text : IsEvidenceText choice kept bytes)
    → NameExactly text.tasks (λ pair. IsModelPipe kept pair × TasksMeet choice.least kept pair)
    text.rows.pipes
