-- The elements that two tasks T and U share in a list of traces. Indices count from 0. This is the
-- project's own.
use Rattle.std.specs.Prelude.{◌≡◌, ◌↔◌, ℕ, ◌+◌, Bool, true, if◌then◌else◌, List, [], ◌∷◌, sum}
use Rattle.std.specs.Prelude.{count_by}
use Rattle.std.specs.List.{AllZip}
use Rattle.trace_types.specs.Listing.{AreExactly}
use Rattle.trace_types.specs.Parts.{Parts}
use Rattle.trace_types.specs.Pipelines.{HandlesAt, RefutesPipe, RefutesUnshared}
use Rattle.evidence_rules.specs.declared.sharing.Sharing.{Sharing}

-- each verdict tells whether the trace beside it has the property
abbrev pub AreVerdicts : {A : Type 0} → (A → Type 0) → List A → List Bool → Type 0
AreVerdicts P traces verdicts = AllZip (λ t v. (v ≡ true) ↔ P t) traces verdicts

-- how many stand before the first that is true; of none all
abbrev pub first_true : List Bool → ℕ
first_true [] = 0
first_true (v ∷ vs) = if v then 0 else first_true vs + 1

module _ {A S N T E : Type 0} (p : Parts A S N T E) where
  -- both tasks handle the element
  pub record Share (trace : A) (t u : T) (e : E) : Type 0 where
    pub k : ℕ
    pub l : ℕ
    pub s : S
    pub r : S
    pub one : HandlesAt p trace t e k s
    pub other : HandlesAt p trace u e l r

  -- the figures of the elements that the two share
  pub record AreSharings (traces : List A) (t u : T) (f : Sharing) : Type 0 where
    pub shared : List Bool
    pub share : AreVerdicts (RefutesUnshared p t u) traces shared
    pub traces_are : f.traces ≡ count_by (λ v. v) shared
    pub elements : List ℕ
    pub are : AllZip (λ trace n. AreExactly (Share trace t u) n) traces elements
    pub elements_are : f.elements ≡ sum elements
    pub refuted : List Bool
    pub refute : AreVerdicts (RefutesPipe p t u) traces refuted
    pub refuted_are : f.refuted ≡ count_by (λ v. v) refuted
    pub first : f.first_refuted ≡ first_true refuted
