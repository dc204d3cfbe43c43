-- Spans from which callers lead into a circle, by number.
use Rattle.std.specs.Prelude.{ℕ, ◌≡◌, ◌≢◌, ◌<◌, ◌≤◌, ◌+◌, ◌==◌, ◌⊎◌, List, Bool, Option}
use Rattle.std.specs.Prelude.{Some, None, not, is_some, length, slice_index_or}
use Rattle.std.specs.List.{count_by}
pub use Rattle.span_requests.specs.CallerNumbers.{AreCallers, number_above}

-- from this span callers lead into a circle
abbrev pub leads_to_circle : List (Option ℕ) → ℕ → Bool
leads_to_circle callers k = is_some (number_above callers (length callers) k)

-- how many spans are marked: not with 0
abbrev pub is_marked : ℕ → Bool
is_marked mark = not (mark == 0)

abbrev pub marked_count : List ℕ → ℕ
marked_count marks = count_by is_marked marks

-- from each marked span callers come to an end, in no more calls than there are marked spans
abbrev pub HaveEnds : List (Option ℕ) → List ℕ → Type 0
HaveEnds callers marks = (k : ℕ) → k < length marks → slice_index_or marks k 0 ≢ 0
    → number_above callers (marked_count marks) k ≡ None

-- some marks are new, and all others as they were
abbrev pub AreMarkedWith : ℕ → (old new : List ℕ) → Type 0
AreMarkedWith walk old new = (k : ℕ) → (slice_index_or new k 0 ≡ slice_index_or old k 0)
    ⊎ (slice_index_or new k 0 ≡ walk)

-- a walk from a start came to a span: from each span that it marked callers lead there, in no more
-- calls than it marked spans
pub record IsOnWalk (callers : List (Option ℕ)) (old marks : List ℕ) (start walk at : ℕ) : Type 0 where
  pub within : at < length callers
  pub marked : AreMarkedWith walk old marks
  pub grown : marked_count old ≤ marked_count marks
  pub way : (k : ℕ) → k < length marks → slice_index_or marks k 0 ≡ walk
      → (n : ℕ) × (0 < n) × (marked_count old + n ≤ marked_count marks)
      × (number_above callers n k ≡ Some at)
  pub begun : (n : ℕ) × (number_above callers n start ≡ Some at)
  pub first : (start ≡ at) ⊎ (slice_index_or marks start 0 ≢ 0)
