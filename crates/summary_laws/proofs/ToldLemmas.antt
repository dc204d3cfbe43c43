-- When a digest and kept traces tell what another digest and other traces tell.
use Rattle.std.proofs.Common.{◌≢◌, ◌⊎◌, ◌↔◌, ℕ, List, [], ◌++◌, map, ⊎_elim, inl, inr, Ordering}
use Rattle.std.specs.List.{Contains}
use Rattle.std.specs.Cmp.Lexicographic.{slice_cmp}
use Rattle.std.specs.Ordering.{nat_cmp}
use Rattle.digest_facts.specs.Digests.{Digest, TellsApart, empty_digest, merged, union}
use Rattle.digest_facts.specs.DigestsOfTraces.{IsPairIn}
use Rattle.digest_facts.specs.Facts.{AreAlike}
use Rattle.digest_facts.proofs.FactLemmas.{turned}
use Rattle.digest_facts.proofs.ListLemmas.{HaveSame, any_append, any_in, append_has, flat_append_has, flat_in, map_append_has, map_in}
use Rattle.digest_facts.proofs.MergeLemmas.{name_apart, nat_apart, pair_apart, text_apart}
use Rattle.digest_facts.proofs.UnionLemmas.{nil_has, union_has}
use Rattle.session_rules.specs.GivenDigests.{IsKeptDigest, known_under}
use Rattle.session_rules.specs.KeptTraces.{Kept, by_kept, day_of}
use Rattle.trace_types.specs.Listing.{ListsExactly}
use Rattle.trace_types.specs.NameOrder.{name_cmp, pair_cmp}
use Rattle.trace_types.specs.Parts.{segments_of}
use Rattle.trace_types.specs.Pipelines.{RefutesPipe, RefutesUnshared}
use Rattle.trace_types.specs.Refuting.{RefutesApart, RefutesBefore, RefutesExclusive}
use Rattle.trace_types.specs.Segments.{SegmentName, name_of, task_of}
use Rattle.trace_types.specs.Surviving.{IsRefuted}

-- the same days, names, tasks and facts
pub record AreToldAlike (given : Digest SegmentName (List ℕ)) (kept : List Kept) (other : Digest SegmentName (List ℕ)) (others : List Kept) : Type 0 where
  pub days : HaveSame (given.days ++ map day_of kept) (other.days ++ map day_of others)
  pub names : HaveSame (given.names ++ map name_of (segments_of by_kept kept)) (other.names ++ map name_of (segments_of by_kept others))
  pub tasks : HaveSame (given.tasks ++ map task_of (segments_of by_kept kept)) (other.tasks ++ map task_of (segments_of by_kept others))
  pub facts : AreAlike (known_under given kept) (known_under other others)

pub turned_told : (given : Digest SegmentName (List ℕ)) (kept : List Kept) (other : Digest SegmentName (List ℕ)) (others : List Kept) → AreToldAlike given kept other others → AreToldAlike other others given kept
turned_told given kept other others told = record {
  days = λ x. ((told.days x).1, (told.days x).0);
  names = λ x. ((told.names x).1, (told.names x).0);
  tasks = λ x. ((told.tasks x).1, (told.tasks x).0);
  facts = turned (known_under given kept) (known_under other others) told.facts;
}

-- ---- a digest that is merged in
merged_same : {X : Type 0} (cmp : X → X → Ordering) → TellsApart cmp → (given told past kept all : List X) → ListsExactly cmp (Contains past) told
    → ((x : X) → Contains all x ↔ (Contains past x ⊎ Contains kept x)) → HaveSame (union cmp given told ++ kept) (given ++ all)
merged_same cmp o given told past kept all l is x = (
  (λ c. (append_has given all x).1 (⊎_elim
      (λ (h : Contains (union cmp given told) x). ⊎_elim (λ (g : Contains given x). inl g) (λ (t : Contains told x). inr ((is x).1 (inl ((l.exactly x).0 t)))) ((union_has cmp o given told x).0 h))
      (λ (h : Contains kept x). inr ((is x).1 (inr h)))
      ((append_has (union cmp given told) kept x).0 c))),
  (λ c. (append_has (union cmp given told) kept x).1 (⊎_elim
      (λ (g : Contains given x). inl ((union_has cmp o given told x).1 (inl g)))
      (λ (h : Contains all x). ⊎_elim (λ (q : Contains past x). inl ((union_has cmp o given told x).1 (inr ((l.exactly x).1 q)))) (λ (q : Contains kept x). inr q) ((is x).0 h))
      ((append_has given all x).0 c))),
)

merged_fact : {A X : Type 0} (cmp : X × X → X × X → Ordering) → TellsApart cmp → (R : X → X → A → Type 0) (given told : List (X × X)) (past kept : List A)
    → ListsExactly cmp (IsPairIn (λ a b. IsRefuted (R a b) past)) told → (a b : X) → a ≢ b
    → (Contains (union cmp given told) (a, b) ⊎ IsRefuted (R a b) kept) ↔ (Contains given (a, b) ⊎ IsRefuted (R a b) (past ++ kept))
merged_fact cmp o R given told past kept l a b differ = (
  (λ s. ⊎_elim
      (λ (h : Contains (union cmp given told) (a, b)). ⊎_elim (λ (g : Contains given (a, b)). inl g) (λ (t : Contains told (a, b)). inr ((any_append (R a b) past kept).1 (inl ((l.exactly (a, b)).0 t).1))) ((union_has cmp o given told (a, b)).0 h))
      (λ (h : IsRefuted (R a b) kept). inr ((any_append (R a b) past kept).1 (inr h)))
      s),
  (λ s. ⊎_elim
      (λ (g : Contains given (a, b)). inl ((union_has cmp o given told (a, b)).1 (inl g)))
      (λ (h : IsRefuted (R a b) (past ++ kept)). ⊎_elim (λ (q : IsRefuted (R a b) past). inl ((union_has cmp o given told (a, b)).1 (inr ((l.exactly (a, b)).1 (differ, q))))) (λ (q : IsRefuted (R a b) kept). inr q) ((any_append (R a b) past kept).0 h))
      s),
)

pub merged_told : (given digest : Digest SegmentName (List ℕ)) (past kept : List Kept) → IsKeptDigest past digest → AreToldAlike (merged name_cmp (slice_cmp nat_cmp) given digest) kept given (past ++ kept)
merged_told given digest past kept is = record {
  days = merged_same nat_cmp nat_apart given.days digest.days (map day_of past) (map day_of kept) (map day_of (past ++ kept)) is.days (map_append_has day_of past kept);
  names = merged_same name_cmp name_apart given.names digest.names (map name_of (segments_of by_kept past)) (map name_of (segments_of by_kept kept)) (map name_of (segments_of by_kept (past ++ kept))) is.names (flat_append_has by_kept.segments name_of past kept);
  tasks = merged_same (slice_cmp nat_cmp) text_apart given.tasks digest.tasks (map task_of (segments_of by_kept past)) (map task_of (segments_of by_kept kept)) (map task_of (segments_of by_kept (past ++ kept))) is.tasks (flat_append_has by_kept.segments task_of past kept);
  facts = record {
    before = merged_fact (pair_cmp name_cmp) (pair_apart name_cmp name_apart) (RefutesBefore by_kept) given.before digest.before past kept is.before;
    exclusive = merged_fact (pair_cmp name_cmp) (pair_apart name_cmp name_apart) (RefutesExclusive by_kept) given.exclusive digest.exclusive past kept is.exclusive;
    apart = merged_fact (pair_cmp name_cmp) (pair_apart name_cmp name_apart) (RefutesApart by_kept) given.together digest.together past kept is.together;
    pipe = merged_fact (pair_cmp (slice_cmp nat_cmp)) (pair_apart (slice_cmp nat_cmp) text_apart) (RefutesPipe by_kept) given.pipe digest.pipe past kept is.pipe;
    unshared = merged_fact (pair_cmp (slice_cmp nat_cmp)) (pair_apart (slice_cmp nat_cmp) text_apart) (RefutesUnshared by_kept) given.shared digest.shared past kept is.shared;
  };
}

-- ---- the same traces in another order
swapped_same : {X : Type 0} (given xs ys : List X) → ((x : X) → Contains xs x → Contains ys x) → (x : X) → Contains (given ++ xs) x → Contains (given ++ ys) x
swapped_same given xs ys to x c = (append_has given ys x).1 (⊎_elim (λ (g : Contains given x). inl g) (λ (h : Contains xs x). inr (to x h)) ((append_has given xs x).0 c))

swapped_fact : {A X : Type 0} (R : X → X → A → Type 0) (given : List (X × X)) (xs ys : List A) → ((k : A) → Contains xs k → Contains ys k) → (a b : X) → (Contains given (a, b) ⊎ IsRefuted (R a b) xs) → (Contains given (a, b) ⊎ IsRefuted (R a b) ys)
swapped_fact R given xs ys to a b s = ⊎_elim (λ (g : Contains given (a, b)). inl g) (λ (h : IsRefuted (R a b) xs). inr (any_in (R a b) xs ys to h)) s

module _ (given : Digest SegmentName (List ℕ)) (kept others : List Kept) (same : (k : Kept) → Contains kept k ↔ Contains others k) where
  to : (k : Kept) → Contains kept k → Contains others k
  to k = (same k).0

  back : (k : Kept) → Contains others k → Contains kept k
  back k = (same k).1

  both_facts : {X : Type 0} (R : X → X → Kept → Type 0) (pairs : List (X × X)) (a b : X) → a ≢ b → (Contains pairs (a, b) ⊎ IsRefuted (R a b) kept) ↔ (Contains pairs (a, b) ⊎ IsRefuted (R a b) others)
  both_facts R pairs a b differ = (swapped_fact R pairs kept others to a b, swapped_fact R pairs others kept back a b)

  pub ordered_told : AreToldAlike given kept given others
  ordered_told = record {
    days = λ x. (swapped_same given.days (map day_of kept) (map day_of others) (map_in day_of kept others to) x, swapped_same given.days (map day_of others) (map day_of kept) (map_in day_of others kept back) x);
    names = λ x. (
      swapped_same given.names (map name_of (segments_of by_kept kept)) (map name_of (segments_of by_kept others)) (map_in name_of (segments_of by_kept kept) (segments_of by_kept others) (flat_in by_kept.segments kept others to)) x,
      swapped_same given.names (map name_of (segments_of by_kept others)) (map name_of (segments_of by_kept kept)) (map_in name_of (segments_of by_kept others) (segments_of by_kept kept) (flat_in by_kept.segments others kept back)) x,
    );
    tasks = λ x. (
      swapped_same given.tasks (map task_of (segments_of by_kept kept)) (map task_of (segments_of by_kept others)) (map_in task_of (segments_of by_kept kept) (segments_of by_kept others) (flat_in by_kept.segments kept others to)) x,
      swapped_same given.tasks (map task_of (segments_of by_kept others)) (map task_of (segments_of by_kept kept)) (map_in task_of (segments_of by_kept others) (segments_of by_kept kept) (flat_in by_kept.segments others kept back)) x,
    );
    facts = record {
      before = both_facts (RefutesBefore by_kept) given.before;
      exclusive = both_facts (RefutesExclusive by_kept) given.exclusive;
      apart = both_facts (RefutesApart by_kept) given.together;
      pipe = both_facts (RefutesPipe by_kept) given.pipe;
      unshared = both_facts (RefutesUnshared by_kept) given.shared;
    };
  }

-- ---- a digest that has the kept traces already
own_same : {X : Type 0} (cmp : X → X → Ordering) (told whole kept : List X) → ListsExactly cmp (Contains whole) told → ((x : X) → Contains kept x → Contains whole x) → HaveSame (told ++ kept) ([] ++ whole)
own_same cmp told whole kept l in_whole x = (
  (λ c. ⊎_elim (λ (h : Contains told x). (l.exactly x).0 h) (λ (h : Contains kept x). in_whole x h) ((append_has told kept x).0 c)),
  (λ c. (append_has told kept x).1 (inl ((l.exactly x).1 c))),
)

own_fact : {A X : Type 0} (cmp : X × X → X × X → Ordering) (R : X → X → A → Type 0) (told : List (X × X)) (whole kept : List A) → ListsExactly cmp (IsPairIn (λ a b. IsRefuted (R a b) whole)) told
    → ((k : A) → Contains kept k → Contains whole k) → (a b : X) → a ≢ b → (Contains told (a, b) ⊎ IsRefuted (R a b) kept) ↔ (Contains {X = X × X} [] (a, b) ⊎ IsRefuted (R a b) whole)
own_fact {A} {X} cmp R told whole kept l in_whole a b differ = (
  (λ s. ⊎_elim (λ (h : Contains told (a, b)). inr ((l.exactly (a, b)).0 h).1) (λ (h : IsRefuted (R a b) kept). inr (any_in (R a b) kept whole in_whole h)) s),
  (λ s. ⊎_elim (λ (h : Contains {X = X × X} [] (a, b)). absurd (nil_has {X = X × X} (a, b) h)) (λ (h : IsRefuted (R a b) whole). inl ((l.exactly (a, b)).1 (differ, h))) s),
)

pub own_told : (digest : Digest SegmentName (List ℕ)) (whole kept : List Kept) → IsKeptDigest whole digest → ((k : Kept) → Contains kept k → Contains whole k) → AreToldAlike digest kept empty_digest whole
own_told digest whole kept is in_whole = record {
  days = own_same nat_cmp digest.days (map day_of whole) (map day_of kept) is.days (map_in day_of kept whole in_whole);
  names = own_same name_cmp digest.names (map name_of (segments_of by_kept whole)) (map name_of (segments_of by_kept kept)) is.names (map_in name_of (segments_of by_kept kept) (segments_of by_kept whole) (flat_in by_kept.segments kept whole in_whole));
  tasks = own_same (slice_cmp nat_cmp) digest.tasks (map task_of (segments_of by_kept whole)) (map task_of (segments_of by_kept kept)) is.tasks (map_in task_of (segments_of by_kept kept) (segments_of by_kept whole) (flat_in by_kept.segments kept whole in_whole));
  facts = record {
    before = own_fact (pair_cmp name_cmp) (RefutesBefore by_kept) digest.before whole kept is.before in_whole;
    exclusive = own_fact (pair_cmp name_cmp) (RefutesExclusive by_kept) digest.exclusive whole kept is.exclusive in_whole;
    apart = own_fact (pair_cmp name_cmp) (RefutesApart by_kept) digest.together whole kept is.together in_whole;
    pipe = own_fact (pair_cmp (slice_cmp nat_cmp)) (RefutesPipe by_kept) digest.pipe whole kept is.pipe in_whole;
    unshared = own_fact (pair_cmp (slice_cmp nat_cmp)) (RefutesUnshared by_kept) digest.shared whole kept is.shared in_whole;
  };
}
