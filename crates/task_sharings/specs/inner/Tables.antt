-- A table of figures, trace by trace and within a trace place by place. Of two tasks below `tasks`
-- the entry stands at the first times `tasks` and the second.
use Rattle.std.specs.Prelude.{◌≡◌, ℕ, ◌+◌, ◌*◌, ◌<◌, ◌≤◌, ◌^◌, List, [], ◌∷◌, ◌++◌, length}
use Rattle.evidence_rules.specs.Sharings.{AreSharings}
use Rattle.evidence_rules.specs.declared.sharing.Sharing.{Sharing}
use Rattle.task_rows.specs.Tables.{entry}
use Rattle.task_sharings.specs.inner.Adding.{told_after}
use Rattle.trace_types.specs.Parts.{by_number}
use Rattle.trace_types.specs.declared.named_trace.NamedTrace.{NamedTrace}

-- the figures of two tasks in the first traces of so many, none of which is above what they allow
pub record AreSoFar (all : ℕ) (traces : List NamedTrace) (t u : ℕ) (f : Sharing) : Type 0 where
  pub figures : AreSharings by_number traces t u (told_after (length traces) f)
  pub unset : f.refuted ≡ 0 → f.first_refuted ≡ all
  pub few_traces : f.traces ≤ length traces
  pub few_elements : f.elements ≤ length traces * 2 ^ 64
  pub few_refuted : f.refuted ≤ length traces

-- each entry has the figures of its tasks in the first traces of so many
pub record IsTableSoFar (all tasks : ℕ) (traces : List NamedTrace) (figures : List Sharing)
    : Type 0 where
  pub long : length figures ≡ tasks * tasks
  pub each : (t u : ℕ) → t < tasks → u < tasks
      → AreSoFar all traces t u (entry figures (t * tasks + u))

-- the entries before a place have one more trace than the others
pub record IsHalfway (all tasks : ℕ) (traces : List NamedTrace) (trace : NamedTrace) (place : ℕ)
    (figures : List Sharing) : Type 0 where
  pub long : length figures ≡ tasks * tasks
  pub done : (t u : ℕ) → t < tasks → u < tasks → t * tasks + u < place
      → AreSoFar all (traces ++ trace ∷ []) t u (entry figures (t * tasks + u))
  pub left : (t u : ℕ) → t < tasks → u < tasks → place ≤ t * tasks + u
      → AreSoFar all traces t u (entry figures (t * tasks + u))

-- the trace with this index is noted in the entries before the place
pub record CanBeNoted (tasks index : ℕ) (trace : NamedTrace) (place : ℕ) (figures : List Sharing)
    : Type 0 where
  pub all : ℕ
  pub traces : List NamedTrace
  pub many : length traces ≡ index
  pub halfway : IsHalfway all tasks traces trace place figures

-- it is noted in the entries from the one place to the other
abbrev pub AreNoted : ℕ → ℕ → NamedTrace → ℕ → List Sharing → ℕ → List Sharing → Type 0
AreNoted tasks index trace from old to new = (all : ℕ) (traces : List NamedTrace)
    → length traces ≡ index
    → IsHalfway all tasks traces trace from old → IsHalfway all tasks traces trace to new

-- the table has the figures of so many traces
pub record IsTraceNext (tasks index : ℕ) (figures : List Sharing) : Type 0 where
  pub all : ℕ
  pub traces : List NamedTrace
  pub many : length traces ≡ index
  pub table : IsTableSoFar all tasks traces figures

-- the trace with this index is noted in all entries
abbrev pub IsTraceNoted : ℕ → ℕ → NamedTrace → List Sharing → List Sharing → Type 0
IsTraceNoted tasks index trace old new = (all : ℕ) (traces : List NamedTrace)
    → length traces ≡ index
    → IsTableSoFar all tasks traces old → IsTableSoFar all tasks (traces ++ trace ∷ []) new
