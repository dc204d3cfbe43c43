-- A digest and traces at hand tell of all traces.
use Rattle.std.proofs.Common.{◌≡◌, ◌≢◌, ◌⊎◌, ℕ, ◌↔◌, List, ◌++◌, length, map, ⊎_elim, inl, inr, arith, Ordering, length-append}
use Rattle.std.specs.List.{Contains}
use Rattle.std.specs.Ordering.{nat_cmp}
use Rattle.trace_types.specs.Listing.{CountsDistinct, ListsExactly}
use Rattle.trace_types.specs.NameOrder.{pair_cmp}
use Rattle.trace_types.specs.Parts.{Parts, segments_of}
use Rattle.trace_types.specs.Pipelines.{RefutesPipe, RefutesUnshared}
use Rattle.trace_types.specs.Refuting.{RefutesApart, RefutesBefore, RefutesExclusive}
use Rattle.trace_types.specs.Relations.{HappensBefore, ExcludesUnordered}
use Rattle.trace_types.specs.Surviving.{Survives, IsRefuted}
use Rattle.trace_rules.specs.Pipes.{IsPipeline}
use Rattle.digest_facts.specs.Facts.{AreAlike, IsOrdered, IsPiped, IsUnordered, facts_of}
use Rattle.digest_facts.specs.DigestLaws.{DigestTellsOfAll, known_by}
use Rattle.digest_facts.specs.Digests.{Digest, TellsApart}
use Rattle.digest_facts.specs.DigestsOfTraces.{IsPairIn, IsDigestOf}
use Rattle.digest_facts.proofs.ListLemmas.{HaveSame, any_append, append_has, flat_append_has, map_append_has}
use Rattle.digest_facts.proofs.FactLemmas.{counted_to, listed_to, none_refutes, ordered_is, ordered_to, piped_is, piped_to, rises_apart, turned, unordered_is, unordered_to}

-- where a list lists the pairs that the past refutes, it and the present refute what all refute
told_with : {A X : Type 0} (cmp : X × X → X × X → Ordering) (R : X → X → A → Type 0) (past kept : List A) (pairs : List (X × X)) → ListsExactly cmp (IsPairIn (λ a b. IsRefuted (R a b) past)) pairs
    → (a b : X) → a ≢ b → (Contains pairs (a, b) ⊎ IsRefuted (R a b) kept) ↔ IsRefuted (R a b) (past ++ kept)
told_with cmp R past kept pairs l a b differ = (
  (λ s. (any_append (R a b) past kept).1 (⊎_elim (λ (c : Contains pairs (a, b)). inl ((l.exactly (a, b)).0 c).1) (λ (r : IsRefuted (R a b) kept). inr r) s)),
  (λ r. ⊎_elim (λ (h : IsRefuted (R a b) past). inl ((l.exactly (a, b)).1 (differ, h))) (λ (h : IsRefuted (R a b) kept). inr h) ((any_append (R a b) past kept).0 r)),
)

-- what is told of the past, and what is at hand, have what all have
same_with : {Y : Type 0} (cmp : Y → Y → Ordering) (past : List Y) (told kept all : List Y) → ListsExactly cmp (Contains past) told → ((y : Y) → Contains all y ↔ (Contains past y ⊎ Contains kept y)) → HaveSame (told ++ kept) all
same_with cmp past told kept all l is y = (
  (λ c. (is y).1 (⊎_elim (λ (h : Contains told y). inl ((l.exactly y).0 h)) (λ (h : Contains kept y). inr h) ((append_has told kept y).0 c))),
  (λ c. (append_has told kept y).1 (⊎_elim (λ (h : Contains past y). inl ((l.exactly y).1 h)) (λ (h : Contains kept y). inr h) ((is y).0 c))),
)

swapped : {X : Type 0} (xs ys : List X) → HaveSame xs ys → HaveSame ys xs
swapped xs ys same x = ((same x).1, (same x).0)

counted_alike : {X : Type 0} (n : ℕ) (xs ys : List X) → HaveSame xs ys → CountsDistinct n xs ↔ CountsDistinct n ys
counted_alike n xs ys same = (counted_to n xs ys same, counted_to n ys xs (swapped xs ys same))

listed_alike : {X : Type 0} (cmp : X → X → Ordering) (P Q : X → Type 0) → ((x : X) → P x ↔ Q x) → (xs : List X) → ListsExactly cmp P xs ↔ ListsExactly cmp Q xs
listed_alike cmp P Q same xs = (listed_to cmp P Q xs same, listed_to cmp Q P xs (λ x. ((same x).1, (same x).0)))

module _ {A S N T E : Type 0} (p : Parts A S N T E) (day : A → ℕ) (by_name : N → N → Ordering) (by_task : T → T → Ordering) where
  pub known_alike : (past kept : List A) (s : Digest N T) → IsDigestOf p day by_name by_task past s → AreAlike (known_by p day by_name by_task s kept) (facts_of p (past ++ kept))
  known_alike past kept s is = record {
    before = told_with (pair_cmp by_name) (RefutesBefore p) past kept s.before is.before;
    exclusive = told_with (pair_cmp by_name) (RefutesExclusive p) past kept s.exclusive is.exclusive;
    apart = told_with (pair_cmp by_name) (RefutesApart p) past kept s.together is.together;
    pipe = told_with (pair_cmp by_task) (RefutesPipe p) past kept s.pipe is.pipe;
    unshared = told_with (pair_cmp by_task) (RefutesUnshared p) past kept s.shared is.shared;
  }

  pub excluded : (past kept : List A) (s : Digest N T) → IsDigestOf p day by_name by_task past s → (a b : N) → a ≢ b → ((known_by p day by_name by_task s kept).exclusive a b → ⊥) ↔ Survives (RefutesExclusive p a b) (past ++ kept)
  excluded past kept s is a b differ =
      let alike = known_alike past kept s is in (
        (λ none. (none_refutes (RefutesExclusive p a b) (past ++ kept)).1 (λ r. none ((alike.exclusive a b differ).1 r))),
        (λ survives. λ r. (none_refutes (RefutesExclusive p a b) (past ++ kept)).0 survives ((alike.exclusive a b differ).0 r)),
      )

  pub tells : TellsApart by_name → DigestTellsOfAll p day by_name by_task
  tells n past kept s is =
      let alike = known_alike past kept s is in
      let back = turned (known_by p day by_name by_task s kept) (facts_of p (past ++ kept)) alike in
      let f = known_by p day by_name by_task s kept in
      let g = facts_of p (past ++ kept) in
      let ordered : (a b : N) → IsOrdered f a b ↔ HappensBefore p (past ++ kept) a b = λ a b. (
        (λ h. (ordered_is p (past ++ kept) a b).1 (ordered_to f g alike a b h)),
        (λ h. ordered_to g f back a b ((ordered_is p (past ++ kept) a b).0 h)),
      ) in
      let unordered : (a b : N) → IsUnordered f by_name a b ↔ ExcludesUnordered p by_name (past ++ kept) a b = λ a b. (
        (λ h. (unordered_is p by_name (rises_apart by_name n) (past ++ kept) a b).1 (unordered_to f g alike by_name a b h)),
        (λ h. unordered_to g f back by_name a b ((unordered_is p by_name (rises_apart by_name n) (past ++ kept) a b).0 h)),
      ) in
      let piped : (t u : T) → IsPiped f t u ↔ IsPipeline p (past ++ kept) t u = λ t u. (
        (λ h. (piped_is p (past ++ kept) t u).1 (piped_to f g alike t u h)),
        (λ h. piped_to g f back t u ((piped_is p (past ++ kept) t u).0 h)),
      ) in
      record {
        count = let l = length-append past kept in let c : s.traces ≡ length past = is.count in omega arith;
        days = λ m. counted_alike m (s.days ++ map day kept) (map day (past ++ kept)) (same_with nat_cmp (map day past) s.days (map day kept) (map day (past ++ kept)) is.days (map_append_has day past kept));
        names = λ m. counted_alike m (s.names ++ map p.name (segments_of p kept)) (map p.name (segments_of p (past ++ kept)))
            (same_with by_name (map p.name (segments_of p past)) s.names (map p.name (segments_of p kept)) (map p.name (segments_of p (past ++ kept))) is.names (flat_append_has p.segments p.name past kept));
        tasks = λ m. counted_alike m (s.tasks ++ map p.task (segments_of p kept)) (map p.task (segments_of p (past ++ kept)))
            (same_with by_task (map p.task (segments_of p past)) s.tasks (map p.task (segments_of p kept)) (map p.task (segments_of p (past ++ kept))) is.tasks (flat_append_has p.segments p.task past kept));
        ordered = ordered;
        unordered = unordered;
        piped = piped;
        exclusive = excluded past kept s is;
        ordered_rows = listed_alike (pair_cmp by_name) (λ pair. IsOrdered f pair.0 pair.1) (λ pair. HappensBefore p (past ++ kept) pair.0 pair.1) (λ pair. ordered pair.0 pair.1);
        unordered_rows = listed_alike (pair_cmp by_name) (λ pair. IsUnordered f by_name pair.0 pair.1) (λ pair. ExcludesUnordered p by_name (past ++ kept) pair.0 pair.1) (λ pair. unordered pair.0 pair.1);
        piped_rows = listed_alike (pair_cmp by_task) (λ pair. IsPiped f pair.0 pair.1) (λ pair. IsPipeline p (past ++ kept) pair.0 pair.1) (λ pair. piped pair.0 pair.1);
      }
