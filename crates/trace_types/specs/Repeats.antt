-- Keys that occur twice. A list has the key of each event by index, or None where it has none.
use Rattle.std.specs.Prelude.{◌≡◌, ℕ, ◌<◌, Option, Some, None, List, length, slice_index_or}
use Rattle.trace_types.specs.declared.event.Event.{Event}
use Rattle.trace_types.specs.Events.{line_at}

-- the key at k stands at an earlier index too
abbrev pub IsRepeated : {K : Type 0} → List (Option K) → ℕ → Type 0
IsRepeated {K} keys k = (j : ℕ) × (key : K) × (j < k) × (k < length keys)
    × (slice_index_or keys j None ≡ Some key) × (slice_index_or keys k None ≡ Some key)

-- no key stands twice
abbrev pub AreDistinct : {K : Type 0} → List (Option K) → Type 0
AreDistinct keys = (k : ℕ) → IsRepeated keys k → ⊥

-- k is the first index whose key stands at an earlier index too
abbrev pub IsFirstRepeat : {K : Type 0} → List (Option K) → ℕ → Type 0
IsFirstRepeat keys k = IsRepeated keys k × ((j : ℕ) → j < k → IsRepeated keys j → ⊥)

-- the line is that of the first event whose key an earlier event has too
abbrev pub IsLineOfRepeat : {K : Type 0} → List Event → List (Option K) → ℕ → Type 0
IsLineOfRepeat events keys line = (k : ℕ) × IsFirstRepeat keys k × (line ≡ line_at events k)
