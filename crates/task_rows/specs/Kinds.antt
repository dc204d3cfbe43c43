-- The kinds of rows of two tasks, and the figures of tasks by their places in a list of numbers.
use Rattle.std.specs.Prelude.{ℕ, List, slice_index}
use Rattle.evidence_rules.specs.EvidenceRows.{Listing, is_nearly_pipe, is_pipe}
use Rattle.evidence_rules.specs.declared.sharing.Sharing.{Sharing}
use Rattle.task_rows.specs.Tables.{TableState, figures_of}
use Rattle.task_rows.specs.declared.kind.TaskKind.{TaskKind}
use Rattle.task_rows.specs.declared.kind.TaskKind.TheVariants.{Pipe, NearlyPipe}

-- which figures tell a relation of a kind
abbrev pub is_told : TaskKind → Listing Sharing
is_told Pipe t u f = is_pipe t u f
is_told NearlyPipe t u f = is_nearly_pipe t u f

-- the figures of the tasks at two places of a list of numbers
abbrev pub sharing_at : TableState → List ℕ → ℕ → ℕ → Sharing
sharing_at table tasks t u = figures_of table (slice_index tasks t) (slice_index tasks u)

-- in how many traces the two share an element
abbrev pub traces_of : Sharing → ℕ
traces_of f = f.traces
