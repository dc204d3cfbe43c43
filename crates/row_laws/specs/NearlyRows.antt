-- The rows `nearly` of the evidence of kept traces name the relations that few of them refute:
-- statements that laws prove.
use Rattle.std.specs.Prelude.{◌≡◌, ◌≢◌, ℕ, ◌*◌, ◌<◌, ◌≤◌, List}
use Rattle.std.specs.declared.cmp.Ordering.TheVariants.{Less}
use Rattle.evidence_rules.specs.declared.choice.Choice.{Choice}
use Rattle.session_rules.specs.EvidenceTexts.{IsEvidenceText}
use Rattle.session_rules.specs.KeptTraces.{Kept, by_kept}
use Rattle.trace_types.specs.NameOrder.{name_cmp}
use Rattle.trace_types.specs.Pipelines.{RefutesPipe, RefutesUnshared}
use Rattle.trace_types.specs.Refuting.{RefutesApart, RefutesBefore, RefutesExclusive}
use Rattle.row_laws.specs.ModelRows.{NamesMeet, TasksMeet, TwoNames, TwoTasks}
use Rattle.row_laws.specs.NamedRows.{NameExactly}
use Rattle.row_laws.specs.TraceCounts.{AreSoMany}

-- some traces refute, and at most one in a hundred of those that have both sides
pub record FewRefute {A : Type 0} (Refutes HaveBoth : A → Type 0) (traces : List A) : Type 0 where
  pub refuting : ℕ
  pub all : ℕ
  pub refute : AreSoMany Refutes traces refuting
  pub have_both : AreSoMany HaveBoth traces all
  pub some : 0 < refuting
  pub few : 100 * refuting ≤ all

-- few kept traces refute that the first name happens before the second
abbrev pub IsNearlyOrder : List Kept → TwoNames → Type 0
IsNearlyOrder kept pair = (pair.0 ≢ pair.1)
    × FewRefute (RefutesBefore by_kept pair.0 pair.1) (RefutesApart by_kept pair.0 pair.1) kept

-- few refute that the two names, in name order, are mutually exclusive
abbrev pub IsNearlyExclusion : List Kept → TwoNames → Type 0
IsNearlyExclusion kept pair = (name_cmp pair.0 pair.1 ≡ Less)
    × FewRefute (RefutesExclusive by_kept pair.0 pair.1) (RefutesApart by_kept pair.0 pair.1) kept

-- few refute that the two tasks are a pipeline
abbrev pub IsNearlyPipe : List Kept → TwoTasks → Type 0
IsNearlyPipe kept pair = (pair.0 ≢ pair.1)
    × FewRefute (RefutesPipe by_kept pair.0 pair.1) (RefutesUnshared by_kept pair.0 pair.1) kept

-- the rows name exactly those with both sides in as many traces as are asked for
abbrev pub NearlyOrderRowsAreFew : Type 0
NearlyOrderRowsAreFew = (choice : Choice) (kept : List Kept) (bytes : List ℕ)
    (text : IsEvidenceText choice kept bytes)
    → NameExactly text.names (λ pair. IsNearlyOrder kept pair × NamesMeet choice.least kept pair)
    text.rows.nearly_orders

abbrev pub NearlyExclusionRowsAreFew : Type 0
NearlyExclusionRowsAreFew = (choice : Choice) (kept : List Kept) (bytes : List ℕ)
    (text : IsEvidenceText choice kept bytes) → NameExactly text.names
    (λ pair. IsNearlyExclusion kept pair × NamesMeet choice.least kept pair)
    text.rows.nearly_exclusions

abbrev pub NearlyPipeRowsAreFew : Type 0
NearlyPipeRowsAreFew = (choice : Choice) (kept : List Kept) (bytes : List ℕ)
    (text : IsEvidenceText choice kept bytes)
    → NameExactly text.tasks (λ pair. IsNearlyPipe kept pair × TasksMeet choice.least kept pair)
    text.rows.nearly_pipes
