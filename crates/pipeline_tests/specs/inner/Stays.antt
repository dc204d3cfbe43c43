-- Where each task handles each data element of a trace. Indices count from 0.
use Rattle.std.specs.Prelude.{◌≡◌, ℕ, ◌<◌, ◌≤◌, List, length, All, AllPairs, slice_index_or}
use Rattle.std.specs.List.{Contains}
use Rattle.pipeline_tests.specs.declared.stays.Stay.{Stay}
use Rattle.trace_types.specs.Parts.{by_number}
use Rattle.trace_types.specs.Pipelines.{HandlesAt, StartsAt}
use Rattle.trace_types.specs.SegmentLists.{TasksStandTogether}
use Rattle.trace_types.specs.declared.named_segment.NamedSegment.{NamedSegment}
use Rattle.trace_types.specs.declared.named_trace.NamedTrace.{NamedTrace}

-- the stay begins where its task starts on its element, and ends where, among the first n segments,
-- the task handles the element last
pub record IsStay (trace : NamedTrace) (n : ℕ) (s : Stay) : Type 0 where
  pub starts : StartsAt by_number trace s.task s.element s.begin s.first
  pub handles : HandlesAt by_number trace s.task s.element s.end s.last
  pub within : s.end < n
  pub last : (j : ℕ) (r : NamedSegment) → j < n
      → HandlesAt by_number trace s.task s.element j r → j ≤ s.end

-- no two of the stays are of one task and one element
abbrev pub StaysDiffer : List Stay → Type 0
StaysDiffer stays = (k l : ℕ) (d : Stay) → k < length stays → l < length stays
    → (slice_index_or stays k d).task ≡ (slice_index_or stays l d).task
    → (slice_index_or stays k d).element ≡ (slice_index_or stays l d).element → k ≡ l

-- each begins before those behind it
abbrev pub StaysRise : List Stay → Type 0
StaysRise stays = AllPairs (λ (s t : Stay). s.begin < t.begin) stays

-- between two stays of one task there are only stays of that task
abbrev pub StaysStandTogether : List Stay → Type 0
StaysStandTogether stays = TasksStandTogether (λ (s : Stay). s.task) stays

-- no two of the stays are of one element
abbrev pub ElementsDiffer : List Stay → Type 0
ElementsDiffer stays = (s t : Stay) → Contains stays s → Contains stays t
    → s.element ≡ t.element → s ≡ t

-- the stays are those of every task and element among the first n segments, each once, in the order
-- in which they begin
pub record AreStays (trace : NamedTrace) (n : ℕ) (stays : List Stay) : Type 0 where
  pub sound : All (IsStay trace n) stays
  pub complete : (j t e : ℕ) (r : NamedSegment) → j < n → HandlesAt by_number trace t e j r
      → (s : Stay) × Contains stays s × (s.task ≡ t) × (s.element ≡ e)
  pub differ : StaysDiffer stays
  pub rise : StaysRise stays

-- the stay at k is of the task and the element
pub record IsKnown (stays : List Stay) (t e k : ℕ) : Type 0 where
  pub within : k < length stays
  pub task : (d : Stay) → (slice_index_or stays k d).task ≡ t
  pub element : (d : Stay) → (slice_index_or stays k d).element ≡ e

-- none of the first n segments is of the task and the element
abbrev pub IsNew : NamedTrace → ℕ → ℕ → ℕ → Type 0
IsNew trace n t e = (j : ℕ) (r : NamedSegment) → j < n
    → HandlesAt by_number trace t e j r → ⊥
