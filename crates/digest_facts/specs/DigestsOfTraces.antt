-- Of which traces a digest is the digest.
use Rattle.std.specs.Prelude.{◌≡◌, ◌≢◌, ℕ, List, length, map, Contains}
use Rattle.std.specs.Ordering.{nat_cmp}
use Rattle.std.specs.declared.cmp.Ordering.{Ordering}
use Rattle.trace_types.specs.Listing.{ListsExactly}
use Rattle.trace_types.specs.NameOrder.{pair_cmp}
use Rattle.trace_types.specs.Parts.{Parts, segments_of}
use Rattle.digest_facts.specs.Facts.{facts_of}
use Rattle.digest_facts.specs.Digests.{Digest}

-- the two differ, and the relation holds of them
abbrev pub IsPairIn : {X : Type 0} → (X → X → Type 0) → X × X → Type 0
IsPairIn R pair = (pair.0 ≢ pair.1) × R pair.0 pair.1

module _ {A S N T E : Type 0} (p : Parts A S N T E) (day : A → ℕ) (by_name : N → N → Ordering)
    (by_task : T → T → Ordering) where
  -- it is the digest of the traces of this list
  pub record IsDigestOf (traces : List A) (s : Digest N T) : Type 0 where
    pub count : s.traces ≡ length traces
    pub days : ListsExactly nat_cmp (Contains (map day traces)) s.days
    pub names : ListsExactly by_name (Contains (map p.name (segments_of p traces))) s.names
    pub tasks : ListsExactly by_task (Contains (map p.task (segments_of p traces))) s.tasks
    pub together : ListsExactly (pair_cmp by_name) (IsPairIn (facts_of p traces).apart) s.together
    pub before : ListsExactly (pair_cmp by_name) (IsPairIn (facts_of p traces).before) s.before
    pub exclusive :
        ListsExactly (pair_cmp by_name) (IsPairIn (facts_of p traces).exclusive) s.exclusive
    pub shared : ListsExactly (pair_cmp by_task) (IsPairIn (facts_of p traces).unshared) s.shared
    pub pipe : ListsExactly (pair_cmp by_task) (IsPairIn (facts_of p traces).pipe) s.pipe
