-- What the digest of past traces tells together with traces at hand: what all of them tell.
use Rattle.std.specs.Prelude.{◌≡◌, ◌≢◌, ◌↔◌, ℕ, ◌+◌, List, ◌++◌, length, map, Contains}
use Rattle.std.specs.declared.cmp.Ordering.{Ordering}
use Rattle.trace_types.specs.Listing.{CountsDistinct, ListsExactly}
use Rattle.trace_types.specs.NameOrder.{pair_cmp}
use Rattle.trace_types.specs.Parts.{Parts, segments_of}
use Rattle.trace_types.specs.Refuting.{RefutesExclusive}
use Rattle.trace_types.specs.Relations.{HappensBefore, ExcludesUnordered}
use Rattle.trace_types.specs.Renaming.{Agree, AreRenamed, IsOneToOne}
use Rattle.trace_types.specs.Surviving.{Survives}
use Rattle.trace_rules.specs.Pipes.{IsPipeline}
use Rattle.digest_facts.specs.Facts.{Facts, both, facts_of, IsOrdered, IsPiped, IsUnordered}
use Rattle.digest_facts.specs.Digests.{Digest, told_by}
use Rattle.digest_facts.specs.DigestsOfTraces.{IsDigestOf}

module _ {A S N T E : Type 0} (p : Parts A S N T E) (day : A → ℕ) (by_name : N → N → Ordering)
    (by_task : T → T → Ordering) where
  -- what a digest and the traces at hand refute
  abbrev pub known_by : Digest N T → List A → Facts N T
  known_by s kept = both (told_by s) (facts_of p kept)

  -- the figures and the rows of a model, and what edges rest on, are those of all traces: the past
  -- ones and those at hand
  pub record TellsOfAll (past kept : List A) (s : Digest N T) : Type 0 where
    pub count : s.traces + length kept ≡ length (past ++ kept)
    pub days : (n : ℕ)
        → CountsDistinct n (s.days ++ map day kept) ↔ CountsDistinct n (map day (past ++ kept))
    pub names : (n : ℕ) → CountsDistinct n (s.names ++ map p.name (segments_of p kept))
        ↔ CountsDistinct n (map p.name (segments_of p (past ++ kept)))
    pub tasks : (n : ℕ) → CountsDistinct n (s.tasks ++ map p.task (segments_of p kept))
        ↔ CountsDistinct n (map p.task (segments_of p (past ++ kept)))
    pub ordered : (a b : N) → IsOrdered (known_by s kept) a b ↔ HappensBefore p (past ++ kept) a b
    pub unordered : (a b : N) → IsUnordered (known_by s kept) by_name a b
        ↔ ExcludesUnordered p by_name (past ++ kept) a b
    pub piped : (t u : T) → IsPiped (known_by s kept) t u ↔ IsPipeline p (past ++ kept) t u
    pub exclusive : (a b : N) → a ≢ b → ((known_by s kept).exclusive a b → ⊥)
        ↔ Survives (RefutesExclusive p a b) (past ++ kept)
    pub ordered_rows : (rows : List (N × N))
        → ListsExactly (pair_cmp by_name)
        (λ pair. IsOrdered (known_by s kept) pair.0 pair.1) rows
        ↔ ListsExactly (pair_cmp by_name)
        (λ pair. HappensBefore p (past ++ kept) pair.0 pair.1) rows
    pub unordered_rows : (rows : List (N × N))
        → ListsExactly (pair_cmp by_name)
        (λ pair. IsUnordered (known_by s kept) by_name pair.0 pair.1) rows
        ↔ ListsExactly (pair_cmp by_name)
        (λ pair. ExcludesUnordered p by_name (past ++ kept) pair.0 pair.1) rows
    pub piped_rows : (rows : List (T × T))
        → ListsExactly (pair_cmp by_task) (λ pair. IsPiped (known_by s kept) pair.0 pair.1) rows
        ↔ ListsExactly (pair_cmp by_task)
        (λ pair. IsPipeline p (past ++ kept) pair.0 pair.1) rows

  -- the digest of past traces tells of all, whatever traces are at hand
  abbrev pub DigestTellsOfAll : Type 0
  DigestTellsOfAll = (past kept : List A) (s : Digest N T)
      → IsDigestOf p day by_name by_task past s → TellsOfAll past kept s

-- which mutual exclusions survive all traces, by a digest of the past ones and those at hand
abbrev pub ExclusionsAreThoseOfAll : {A S N T E : Type 0} → Parts A S N T E → Type 0
ExclusionsAreThoseOfAll {A} {S} {N} {T} p = (day : A → ℕ) (by_name : N → N → Ordering)
    (by_task : T → T → Ordering) (past kept : List A) (s : Digest N T)
    → IsDigestOf p day by_name by_task past s → (a b : N) → a ≢ b
    → ((known_by p day by_name by_task s kept).exclusive a b → ⊥)
    ↔ Survives (RefutesExclusive p a b) (past ++ kept)

-- what the one digest says of names and tasks is what the other says of those that they are matched
-- with
pub record TellAlike {N T M U : Type 0} (names : List (N × M)) (tasks : List (T × U))
    (s : Digest N T) (t : Digest M U) : Type 0 where
  pub together :
      Agree names (λ a b. Contains s.together (a, b)) (λ c d. Contains t.together (c, d))
  pub before : Agree names (λ a b. Contains s.before (a, b)) (λ c d. Contains t.before (c, d))
  pub exclusive :
      Agree names (λ a b. Contains s.exclusive (a, b)) (λ c d. Contains t.exclusive (c, d))
  pub shared : Agree tasks (λ a b. Contains s.shared (a, b)) (λ c d. Contains t.shared (c, d))
  pub pipe : Agree tasks (λ a b. Contains s.pipe (a, b)) (λ c d. Contains t.pipe (c, d))

-- digests of traces and of the same traces under other names tell alike
abbrev pub RenamedTellAlike : {A S N T E B X M U F : Type 0} → Parts A S N T E → Parts B X M U F
    → Type 0
RenamedTellAlike {A} {S} {N} {T} {E} {B} {X} {M} {U} {F} p q = (day : A → ℕ) (other_day : B → ℕ)
    (by_name : N → N → Ordering) (by_task : T → T → Ordering) (by_other : M → M → Ordering)
    (by_other_task : U → U → Ordering) (names : List (N × M)) (tasks : List (T × U))
    (traces : List A) (others : List B) (s : Digest N T) (t : Digest M U)
    → IsOneToOne names → IsOneToOne tasks → AreRenamed p q names tasks traces others
    → IsDigestOf p day by_name by_task traces s
    → IsDigestOf q other_day by_other by_other_task others t → TellAlike names tasks s t
