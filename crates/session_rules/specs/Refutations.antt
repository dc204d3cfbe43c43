-- Which relations kept traces refute, and which trace is the first to refute one. Indices count
-- from 0.
use Rattle.std.specs.Prelude.{◌≡◌, ◌↔◌, ℕ, Bool, true, List, ◌∷◌, ◌++◌, length, map, slice_get}
use Rattle.std.specs.Prelude.{Some, All}
use Rattle.std.specs.Cmp.Lexicographic.{slice_cmp}
use Rattle.std.specs.Ordering.{nat_cmp}
use Rattle.std.specs.declared.cmp.Ordering.TheVariants.{Less}
use Rattle.certificates.specs.declared.claim.Claim.{Claim}
use Rattle.certificates.specs.declared.matter.Matter.{Matter}
use Rattle.certificates.specs.declared.matter.Matter.TheVariants.{Before, Exclusive, Pipe}
use Rattle.trace_types.specs.Listing.{ListsExactly}
use Rattle.trace_types.specs.NameOrder.{name_cmp, pair_cmp}
use Rattle.trace_types.specs.Segments.{SegmentName}
use Rattle.trace_types.specs.Surviving.{IsRefuted}
use Rattle.trace_rules.specs.Hypotheses as hypotheses
use Rattle.trace_rules.specs.Hypotheses.{Hypothesis, RefutesHypothesis}
use Rattle.session_rules.specs.KeptTraces.{Kept, by_kept, day_of, traces_on}

-- the relation as a hypothesis on texts
abbrev pub hypothesis_of : Matter → Hypothesis SegmentName (List ℕ)
hypothesis_of (Before a b) = hypotheses.Before a b
hypothesis_of (Exclusive a b) = hypotheses.Exclusive a b
hypothesis_of (Pipe t u) = hypotheses.Pipe t u

-- the kept trace refutes the relation, which is one of two different names or tasks
abbrev pub RefutesMatter : Matter → Kept → Type 0
RefutesMatter matter k = RefutesHypothesis by_kept (hypothesis_of matter) k

-- of the kept traces the first that refutes the relation, and its index among those of its day
pub record IsFirstToRefute (kept : List Kept) (matter : Matter) (k : Kept) (index : ℕ) : Type 0
  where
    pub before : List Kept
    pub after : List Kept
    pub split : kept ≡ before ++ k ∷ after
    pub refutes : RefutesMatter matter k
    pub first : All (λ b. RefutesMatter matter b → ⊥) before
    pub counted : index ≡ length (traces_on (day_of k) before)

-- pairs of names and of tasks between which relations are refuted
pub record Refutations : Type 0 where
  pub before : List (SegmentName × SegmentName)
  pub exclusive : List (SegmentName × SegmentName)
  pub pipe : List (List ℕ × List ℕ)

-- exactly the relations that some kept trace refutes; an exclusive pair stands once, its first name
-- before the second
pub record AreRefutations (kept : List Kept) (refuted : Refutations) : Type 0 where
  pub before : ListsExactly (pair_cmp name_cmp)
      (λ pair. IsRefuted (RefutesMatter (Before pair.0 pair.1)) kept) refuted.before
  pub exclusive : ListsExactly (pair_cmp name_cmp)
      (λ pair. (name_cmp pair.0 pair.1 ≡ Less)
      × IsRefuted (RefutesMatter (Exclusive pair.0 pair.1)) kept) refuted.exclusive
  pub pipe : ListsExactly (pair_cmp (slice_cmp nat_cmp))
      (λ pair. IsRefuted (RefutesMatter (Pipe pair.0 pair.1)) kept) refuted.pipe

-- the relations: by kind, and each kind by its two names or tasks
abbrev pub matters_of : Refutations → List Matter
matters_of refuted =
    map (λ pair. Before pair.0 pair.1) refuted.before
    ++ (map (λ pair. Exclusive pair.0 pair.1) refuted.exclusive
    ++ map (λ pair. Pipe pair.0 pair.1) refuted.pipe)

-- the kept trace of the claim's day and index has the claim's request and refutes its relation
pub record IsClaimShown (kept : List Kept) (claim : Claim) : Type 0 where
  pub trace : Kept
  pub stands : slice_get (traces_on claim.day kept) claim.index ≡ Some trace
  pub request : trace.trace.request ≡ claim.request
  pub refutes : RefutesMatter claim.matter trace

-- whether the claim is shown
abbrev pub IsVerdict : List Kept → Claim → Bool → Type 0
IsVerdict kept claim verdict = (verdict ≡ true) ↔ IsClaimShown kept claim
