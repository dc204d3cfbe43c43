-- The elements that a task handles in a trace. Indices count from 0.
use Rattle.std.specs.Prelude.{◌≡◌, ◌↔◌, ℕ, Some, List, Contains}
use Rattle.std.specs.List.Sorted.{IsStrictlyIncreasing}
use Rattle.trace_types.specs.Parts.{by_number}
use Rattle.trace_types.specs.Pipelines.{HandlesAt}
use Rattle.trace_types.specs.declared.named_segment.NamedSegment.{NamedSegment}
use Rattle.trace_types.specs.declared.named_trace.NamedTrace.{NamedTrace}

-- the task handles the element in this segment
abbrev pub Handles : ℕ → ℕ → NamedSegment → Type 0
Handles task element s = (s.task ≡ task) × (s.element ≡ Some element)

-- the task handles the element in some segment of the trace
abbrev pub IsElementOf : NamedTrace → ℕ → ℕ → Type 0
IsElementOf trace task element =
    (k : ℕ) × (s : NamedSegment) × HandlesAt by_number trace task element k s

-- the list has exactly the elements that the task handles in the trace, rising
pub record AreElementsOf (trace : NamedTrace) (task : ℕ) (elements : List ℕ) : Type 0 where
  pub rising : IsStrictlyIncreasing elements
  pub exactly : (e : ℕ) → Contains elements e ↔ IsElementOf trace task e
