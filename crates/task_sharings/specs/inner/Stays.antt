-- Where a task starts on an element and is done with it. Indices count from 0.
use Rattle.std.specs.Prelude.{ℕ}
use Rattle.trace_types.specs.Parts.{by_number}
use Rattle.trace_types.specs.Pipelines.{EndsAt, HandlesAt, StartsAt}
use Rattle.trace_types.specs.Refuting.{StartsEarly}
use Rattle.trace_types.specs.declared.named_segment.NamedSegment.{NamedSegment}
use Rattle.trace_types.specs.declared.named_trace.NamedTrace.{NamedTrace}

-- the task handles the element in no segment of the trace
abbrev pub NeverHandles : NamedTrace → ℕ → ℕ → Type 0
NeverHandles trace task element =
    (k : ℕ) (s : NamedSegment) → HandlesAt by_number trace task element k s → ⊥

-- it starts on the element with the segment at k
abbrev pub IsStart : NamedTrace → ℕ → ℕ → ℕ → Type 0
IsStart trace task element k = (s : NamedSegment) × StartsAt by_number trace task element k s

-- it is done with the element with the segment at k
abbrev pub IsEnd : NamedTrace → ℕ → ℕ → ℕ → Type 0
IsEnd trace task element k = (s : NamedSegment) × EndsAt by_number trace task element k s

-- from its start on the element to its end with it more time passes than the grace
pub record Outlasts (trace : NamedTrace) (task element : ℕ) : Type 0 where
  pub end : ℕ
  pub start : ℕ
  pub last : NamedSegment
  pub first : NamedSegment
  pub ends : EndsAt by_number trace task element end last
  pub starts : StartsAt by_number trace task element start first
  pub early : StartsEarly by_number trace first last
