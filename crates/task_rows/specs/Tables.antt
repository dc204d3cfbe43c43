-- A table of figures, with an entry for each ordered pair of tasks.
use Rattle.std.specs.Prelude.{ℕ, ◌+◌, ◌*◌, ◌<◌, List, slice_index_or}
use Rattle.evidence_rules.specs.Sharings.{AreSharings}
use Rattle.evidence_rules.specs.declared.sharing.Sharing.{Sharing}
use Rattle.trace_types.specs.Parts.{by_number}
use Rattle.trace_types.specs.declared.named_trace.NamedTrace.{NamedTrace}

-- the figures of no elements
abbrev pub no_figures : Sharing
no_figures = record { traces = 0; elements = 0; refuted = 0; first_refuted = 0 }

-- a table: the number of tasks, and the figures by the first task and then by the second
pub record TableState : Type 0 where
  pub tasks : ℕ
  pub figures : List Sharing

-- the figures at a place
abbrev pub entry : List Sharing → ℕ → Sharing
entry figures place = slice_index_or figures place no_figures

-- the figures of two tasks
abbrev pub figures_of : TableState → ℕ → ℕ → Sharing
figures_of t a b = entry t.figures (a * t.tasks + b)

-- the table has the figures of the elements that each two tasks below this number share in traces
abbrev pub IsTableOf : ℕ → List NamedTrace → TableState → Type 0
IsTableOf tasks traces t = (a b : ℕ) → a < tasks → b < tasks
    → AreSharings by_number traces a b (figures_of t a b)
