-- The numbers of lines of the model.
use Rattle.std.specs.Prelude.{ℕ, ◌<◌, List}
use Rattle.std.specs.declared.cmp.Ordering.{Ordering}
use Rattle.model_meet.specs.Counting.{CountsPairs, OrdersBelow}
use Rattle.model_meet.specs.ModelStates.{ModelState}
use Rattle.trace_rules.specs.Pipes.{IsPipeline}
use Rattle.model_meet.specs.RelationBits.{HasOrder, HasExclusion, HasPipe}
use Rattle.model_meet.specs.declared.counts.Counts.{Counts}
use Rattle.trace_types.specs.declared.named_trace.NamedTrace.{NamedTrace}
use Rattle.trace_types.specs.Parts.{by_number}
use Rattle.trace_types.specs.Relations.{HappensBefore, ExcludesUnordered}

-- of names below `names`, how many ordered pairs happen before one another, and how many are
-- mutually exclusive with no fixed order, each once in whatever order the names have; of tasks
-- below `tasks`, how many ordered pairs are a pipeline
pub record AreCounts (traces : List NamedTrace) (names tasks : ℕ) (counts : Counts) : Type 0 where
  pub hb : CountsPairs names (HappensBefore by_number traces) counts.hb
  pub mx : (cmp : ℕ → ℕ → Ordering) → OrdersBelow names cmp
      → CountsPairs names (ExcludesUnordered by_number cmp traces) counts.mx
  pub pipe : CountsPairs tasks (IsPipeline by_number traces) counts.pipe

-- the same by the bits of the model's words
pub record AreCountsOfBits (model : ModelState) (tasks : ℕ) (counts : Counts) : Type 0 where
  pub hb : CountsPairs model.names (HasOrder model.words) counts.hb
  pub mx : CountsPairs model.names (λ a b. (a < b) × HasExclusion model.words a b) counts.mx
  pub pipe : CountsPairs tasks (HasPipe model.words) counts.pipe
