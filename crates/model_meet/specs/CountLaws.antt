-- What is promised of the numbers of lines, over the definitions alone.
use Rattle.std.specs.Ordering.{nat_cmp}
use Rattle.std.specs.Prelude.{◌≡◌, ℕ, ◌<◌, List, All}
use Rattle.std.specs.declared.cmp.Ordering.{Ordering}
use Rattle.refute_tests.specs.Clearing.{HaveNamesBelow}
use Rattle.trace_rules.specs.Pipes.{IsPipeline}
use Rattle.trace_types.specs.Listing.{AreExactly}
use Rattle.trace_types.specs.declared.named_segment.NamedSegment.{NamedSegment}
use Rattle.trace_types.specs.declared.named_trace.NamedTrace.{NamedTrace}
use Rattle.trace_types.specs.Parts.{by_number}
use Rattle.trace_types.specs.Relations.{HappensBefore, ExcludesUnordered}
use Rattle.model_meet.specs.Counting.{OrdersBelow}
use Rattle.model_meet.specs.LineCounts.{AreCounts}
use Rattle.model_meet.specs.declared.counts.Counts.{Counts}

-- all tasks of the trace are below this number
abbrev pub HaveTasksBelow : ℕ → NamedTrace → Type 0
HaveTasksBelow n trace = All (λ (s : NamedSegment). s.task < n) trace.segments

-- the numbers of all lines: of all pairs of names, and of all pairs of tasks
pub record AreLineCounts (traces : List NamedTrace) (names : ℕ) (counts : Counts) : Type 0 where
  pub hb : AreExactly (λ (pair : ℕ × ℕ). HappensBefore by_number traces pair.0 pair.1) counts.hb
  pub mx : (cmp : ℕ → ℕ → Ordering) → OrdersBelow names cmp
      → AreExactly (λ (pair : ℕ × ℕ). ExcludesUnordered by_number cmp traces pair.0 pair.1)
      counts.mx
  pub pipe : AreExactly (λ (pair : ℕ × ℕ). IsPipeline by_number traces pair.0 pair.1) counts.pipe

-- where the traces have no name and no task at or above the bounds, no line is left out
abbrev pub NoLineIsLeftOut : Type 0
NoLineIsLeftOut = (traces : List NamedTrace) (names tasks : ℕ) (counts : Counts)
    → All (HaveNamesBelow names) traces → All (HaveTasksBelow tasks) traces
    → AreCounts traces names tasks counts → AreLineCounts traces names counts

-- traces have one number of lines of each kind
abbrev pub CountsAreOne : Type 0
CountsAreOne = (traces : List NamedTrace) (names tasks : ℕ) (c d : Counts)
    → AreCounts traces names tasks c → AreCounts traces names tasks d → c ≡ d

-- numbers have an order
abbrev pub NumbersAreOrdered : Type 0
NumbersAreOrdered = (limit : ℕ) → OrdersBelow limit nat_cmp
