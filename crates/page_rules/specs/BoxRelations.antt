-- The relations between the names of two boxes of the model, and the first trace in which two of
-- them overlap. Indices count from 0. This is the project's own.
use Rattle.std.specs.Prelude.{◌≡◌, ◌⊎◌, ℕ, Bool, List, All, Contains}
use Rattle.std.specs.Prelude.{Option, Some, None}
use Rattle.std.specs.declared.cmp.Ordering.TheVariants.{Less}
use Rattle.digest_facts.specs.Facts.{Facts, IsOrdered, IsUnordered}
use Rattle.evidence_laws.specs.FirstLaws.{IsFirstWith}
use Rattle.page_rules.specs.Boxes.{Box, box_of}
use Rattle.page_rules.specs.declared.box_relations.BoxRelations.{BoxRelations}
use Rattle.trace_types.specs.Listing.{AreExactly}
use Rattle.trace_types.specs.NameOrder.{name_cmp}
use Rattle.trace_types.specs.Parts.{Parts}
use Rattle.trace_types.specs.Refuting.{RefutesExclusive}
use Rattle.trace_types.specs.Segments.{SegmentName}

-- a pair of two boxes: a name of the one and a name of the other; of one box each two names once,
-- in name order. The names are in `names`, and those in `boxed` have boxes of their own
pub record IsPairOf (same : SegmentName → SegmentName → Bool) (names boxed : List SegmentName)
    (v w : Box) (pair : SegmentName × SegmentName) : Type 0 where
  pub one : Contains names pair.0
  pub other : Contains names pair.1
  pub first : box_of same boxed pair.0 ≡ v
  pub second : box_of same boxed pair.1 ≡ w
  pub once : v ≡ w → name_cmp pair.0 pair.1 ≡ Less

-- the first of the pair happens before the second; in one box also the second before the first
abbrev pub HasOrder : Facts SegmentName (List ℕ) → (v w : Box) → SegmentName × SegmentName → Type 0
HasOrder facts v w pair =
    IsOrdered facts pair.0 pair.1 ⊎ ((v ≡ w) × IsOrdered facts pair.1 pair.0)

-- the two are mutually exclusive with no fixed order
abbrev pub HasExclusion : Facts SegmentName (List ℕ) → SegmentName × SegmentName → Type 0
HasExclusion facts pair =
    IsUnordered facts name_cmp pair.0 pair.1 ⊎ IsUnordered facts name_cmp pair.1 pair.0

-- the index of the first trace with the property, or None where no trace has it
abbrev pub IsFirstOrNone : {A : Type 0} → (A → Type 0) → List A → Option ℕ → Type 0
IsFirstOrNone P traces None = All (λ t. P t → ⊥) traces
IsFirstOrNone P traces (Some index) = IsFirstWith P traces index

module _ {A S T E : Type 0} (p : Parts A S SegmentName T E) where
  -- in the trace the two names of a pair of the boxes overlap, by more than its grace
  abbrev pub HasOverlap : (SegmentName → SegmentName → Bool) → (names boxed : List SegmentName)
      → (v w : Box) → A → Type 0
  HasOverlap same names boxed v w trace = (pair : SegmentName × SegmentName)
      × IsPairOf same names boxed v w pair × RefutesExclusive p pair.0 pair.1 trace

  -- these are the relations between two boxes, where this is refuted
  pub record AreBoxRelations (same : SegmentName → SegmentName → Bool)
      (facts : Facts SegmentName (List ℕ)) (traces : List A) (names boxed : List SegmentName)
      (v w : Box) (r : BoxRelations) : Type 0 where
    pub both : AreExactly (λ pair. IsPairOf same names boxed v w pair
        × facts.apart pair.0 pair.1) r.both
    pub before : AreExactly (λ pair. IsPairOf same names boxed v w pair
        × HasOrder facts v w pair) r.before
    pub exclusive : AreExactly (λ pair. IsPairOf same names boxed v w pair
        × HasExclusion facts pair) r.exclusive
    pub overlap : IsFirstOrNone (HasOverlap same names boxed v w) traces r.overlap
