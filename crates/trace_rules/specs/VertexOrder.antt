-- The order of a trace's segments in its graph. Indices count from 0.
use Rattle.std.specs.Prelude.{◌≡◌, ◌⊎◌, ◌↔◌, ℕ, ◌<◌, ◌<ℤ◌, Some, List, length, AllPairs, Contains}
use Rattle.std.specs.Prelude.{slice_get}
use Rattle.trace_types.specs.Parts.{Parts}

module _ {A S N T E : Type 0} (p : Parts A S N T E) where
  -- the segment s at the index i comes before the segment t at j: by start, then by end, then by
  -- index
  abbrev pub IsEarlier : S → ℕ → S → ℕ → Type 0
  IsEarlier s i t j = (p.start s <ℤ p.start t) ⊎ ((p.start s ≡ p.start t)
      × ((p.end s <ℤ p.end t) ⊎ ((p.end s ≡ p.end t) × (i < j))))

  -- the trace has segments at these indices, and the first comes before the second
  abbrev pub ComesBefore : A → ℕ → ℕ → Type 0
  ComesBefore trace i j = (s t : S) × (slice_get (p.segments trace) i ≡ Some s)
      × (slice_get (p.segments trace) j ≡ Some t) × IsEarlier s i t j

  -- the indices of all segments of the trace, in this order: entry v is the index of vertex v's
  -- segment
  pub record IsVertexOrder (trace : A) (order : List ℕ) : Type 0 where
    pub all : (i : ℕ) → Contains order i ↔ (i < length (p.segments trace))
    pub rising : AllPairs (ComesBefore trace) order
