-- Where a task starts on an element, and is done with it. Indices count from 0.
use Rattle.std.specs.Prelude.{◌≡◌, ℕ, Some, slice_get}
use Rattle.trace_types.specs.Parts.{by_number}
use Rattle.trace_types.specs.Pipelines.{EndsAt, HandlesAt, StartsAt}
use Rattle.trace_types.specs.Refuting.{StartsEarly}
use Rattle.trace_types.specs.declared.named_segment.NamedSegment.{NamedSegment}
use Rattle.trace_types.specs.declared.named_trace.NamedTrace.{NamedTrace}

-- the task handles the element in the segment
abbrev pub Handles : ℕ → ℕ → NamedSegment → Type 0
Handles task element s = (s.task ≡ task) × (s.element ≡ Some element)

-- it does so in no segment of the trace
abbrev pub NeverHandles : NamedTrace → ℕ → ℕ → Type 0
NeverHandles trace task element =
    (k : ℕ) (s : NamedSegment) → HandlesAt by_number trace task element k s → ⊥

-- the task starts on the element with the segment at k
abbrev pub IsStart : NamedTrace → ℕ → ℕ → ℕ → Type 0
IsStart trace task element k = (s : NamedSegment) × StartsAt by_number trace task element k s

-- it is done with the element with the segment at k
abbrev pub IsEnd : NamedTrace → ℕ → ℕ → ℕ → Type 0
IsEnd trace task element k = (s : NamedSegment) × EndsAt by_number trace task element k s

-- `to` starts on the element before `from` is done with it, by more than the grace
pub record TakesEarly (trace : NamedTrace) (from to element : ℕ) : Type 0 where
  pub giver : ℕ
  pub taker : ℕ
  pub given : NamedSegment
  pub taken : NamedSegment
  pub ends : EndsAt by_number trace from element giver given
  pub starts : StartsAt by_number trace to element taker taken
  pub early : StartsEarly by_number trace taken given

-- `from` starts on an element with the segment at i, and `to` with that at x
pub record TakesAt (trace : NamedTrace) (from to i x : ℕ) : Type 0 where
  pub element : ℕ
  pub given : IsStart trace from element i
  pub taken : IsStart trace to element x

-- so it takes the element of the segment at k
pub record TakesEarlyAt (trace : NamedTrace) (from to k : ℕ) : Type 0 where
  pub element : ℕ
  pub s : NamedSegment
  pub segment : slice_get trace.segments k ≡ Some s
  pub is : s.element ≡ Some element
  pub early : TakesEarly trace from to element

-- in the segment at k the task `low` handles an element that `high` handles too
pub record SharesAt (trace : NamedTrace) (low high k : ℕ) : Type 0 where
  pub element : ℕ
  pub l : ℕ
  pub s : NamedSegment
  pub r : NamedSegment
  pub one : HandlesAt by_number trace low element k s
  pub other : HandlesAt by_number trace high element l r
