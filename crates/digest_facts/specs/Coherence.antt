-- Digests that hang together, as those of traces do.
use Rattle.std.specs.Prelude.{◌≢◌, ℕ, List, Contains}
use Rattle.std.specs.declared.cmp.Ordering.{Ordering}
use Rattle.trace_types.specs.Parts.{Parts}
use Rattle.digest_facts.specs.Digests.{IsInForm, Digest, merged}
use Rattle.digest_facts.specs.DigestsOfTraces.{IsDigestOf}

-- each pair is of two that are listed, and stands in both orders
pub record ArePairsOf {X : Type 0} (listed : List X) (pairs : List (X × X)) : Type 0 where
  pub differ : (a b : X) → Contains pairs (a, b) → a ≢ b
  pub first : (a b : X) → Contains pairs (a, b) → Contains listed a
  pub second : (a b : X) → Contains pairs (a, b) → Contains listed b
  pub turned : (a b : X) → Contains pairs (a, b) → Contains pairs (b, a)

-- the pairs of the one are among those of the other
abbrev pub AreAmong : {X : Type 0} → List (X × X) → List (X × X) → Type 0
AreAmong {X} pairs others = (a b : X) → Contains pairs (a, b) → Contains others (a, b)

module _ {N T : Type 0} (by_name : N → N → Ordering) (by_task : T → T → Ordering) where
  -- its lists rise; what is refuted is refuted of names that some trace has both of, or of tasks
  -- that share an element; where mutual exclusion is refuted, so are both orders
  pub record IsCoherent (s : Digest N T) : Type 0 where
    pub form : IsInForm by_name by_task s
    pub together : ArePairsOf s.names s.together
    pub before : AreAmong s.before s.together
    pub exclusive : AreAmong s.exclusive s.before
    pub turned : (a b : N) → Contains s.exclusive (a, b) → Contains s.exclusive (b, a)
    pub shared : ArePairsOf s.tasks s.shared
    pub pipe : AreAmong s.pipe s.shared

  -- the merge of two such digests is one
  abbrev pub MergedIsCoherent : Type 0
  MergedIsCoherent = (s t : Digest N T) → IsCoherent s → IsCoherent t
      → IsCoherent (merged by_name by_task s t)

-- the digest of traces is one
abbrev pub DigestIsCoherent : {A S N T E : Type 0} → Parts A S N T E → Type 0
DigestIsCoherent {A} {S} {N} {T} p = (day : A → ℕ) (by_name : N → N → Ordering)
    (by_task : T → T → Ordering) (traces : List A) (s : Digest N T)
    → IsDigestOf p day by_name by_task traces s → IsCoherent by_name by_task s
