-- What is promised of digests and of their merging.
use Rattle.std.specs.Prelude.{◌≡◌, ◌↔◌, ℕ, List, [], ◌++◌, length, Contains}
use Rattle.std.specs.declared.cmp.Ordering.{Ordering}
use Rattle.trace_types.specs.Parts.{Parts}
use Rattle.digest_facts.specs.Digests.{Digest, IsInForm, merged, empty_digest}
use Rattle.digest_facts.specs.DigestsOfTraces.{IsDigestOf}

module _ {N T : Type 0} (by_name : N → N → Ordering) (by_task : T → T → Ordering) where
  -- digests in form are a commutative monoid
  pub record MergesFreely : Type 0 where
    pub form : (s t : Digest N T) → IsInForm by_name by_task s → IsInForm by_name by_task t
        → IsInForm by_name by_task (merged by_name by_task s t)
    pub commutes : (s t : Digest N T) → IsInForm by_name by_task s → IsInForm by_name by_task t
        → merged by_name by_task s t ≡ merged by_name by_task t s
    pub associates : (s t u : Digest N T) → IsInForm by_name by_task s → IsInForm by_name by_task t
        → IsInForm by_name by_task u
        → merged by_name by_task (merged by_name by_task s t) u
        ≡ merged by_name by_task s (merged by_name by_task t u)
    pub starts : IsInForm by_name by_task empty_digest
    pub begins : (s : Digest N T) → merged by_name by_task empty_digest s ≡ s
    pub ends : (s : Digest N T) → IsInForm by_name by_task s → merged by_name by_task s empty_digest ≡ s

module _ {A S N T E : Type 0} (p : Parts A S N T E) (day : A → ℕ) (by_name : N → N → Ordering)
    (by_task : T → T → Ordering) where
  -- the digest of a list of traces is in form
  abbrev pub IsFormed : Type 0
  IsFormed = (traces : List A) (s : Digest N T) → IsDigestOf p day by_name by_task traces s
      → IsInForm by_name by_task s

  -- traces have one digest, in whatever order they stand
  abbrev pub HasOneDigest : Type 0
  HasOneDigest = (traces others : List A) (s t : Digest N T) → length traces ≡ length others
      → ((x : A) → Contains traces x ↔ Contains others x) → IsDigestOf p day by_name by_task traces s
      → IsDigestOf p day by_name by_task others t → s ≡ t

  -- the digest of no trace, and that of two lists one after the other
  abbrev pub NothingIsDigest : Type 0
  NothingIsDigest = IsDigestOf p day by_name by_task [] empty_digest

  abbrev pub MergedIsDigest : Type 0
  MergedIsDigest = (traces others : List A) (s t : Digest N T)
      → IsDigestOf p day by_name by_task traces s → IsDigestOf p day by_name by_task others t
      → IsDigestOf p day by_name by_task (traces ++ others) (merged by_name by_task s t)
