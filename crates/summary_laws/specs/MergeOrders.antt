-- Digests are merged in any order and in any steps: statements that laws prove.
use Rattle.std.specs.Prelude.{◌≡◌, ℕ, List, ◌∷◌, ◌++◌, All}
use Rattle.std.specs.Cmp.Lexicographic.{slice_cmp}
use Rattle.std.specs.Ordering.{nat_cmp}
use Rattle.digest_facts.specs.Digests.{Digest, IsInForm}
use Rattle.digest_merging.specs.Merges.{merged_digest, merged_of}
use Rattle.trace_types.specs.NameOrder.{name_cmp}
use Rattle.trace_types.specs.Segments.{SegmentName}

-- each list of each of the digests rises
abbrev pub AreInForm : List (Digest SegmentName (List ℕ)) → Type 0
AreInForm digests = All (IsInForm name_cmp (slice_cmp nat_cmp)) digests

-- two neighbours may change places, and so all may stand in any order
abbrev pub DigestsAreMergedInAnyOrder : Type 0
DigestsAreMergedInAnyOrder = (before after : List (Digest SegmentName (List ℕ)))
    (s t : Digest SegmentName (List ℕ)) → AreInForm (before ++ (s ∷ t ∷ after))
    → merged_of (before ++ (s ∷ t ∷ after)) ≡ merged_of (before ++ (t ∷ s ∷ after))

-- two parts that are merged apart are merged to what all are merged to
abbrev pub DigestsAreMergedInSteps : Type 0
DigestsAreMergedInSteps = (digests others : List (Digest SegmentName (List ℕ)))
    → AreInForm (digests ++ others)
    → merged_of (digests ++ others) ≡ merged_digest (merged_of digests) (merged_of others)
