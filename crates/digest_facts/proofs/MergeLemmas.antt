-- Digests: one of each list of traces, and what merging makes of them.
use Rattle.std.proofs.Common.{◌≡◌, ◌⊎◌, ℕ, ◌<◌, ◌↔◌, List, [], ◌∷◌, ◌++◌, length, map, refl, sym, ap, ◌∙◌, subst, ⊎_elim, inl, inr, arith, Ordering, length-append}
use Rattle.std.specs.declared.cmp.Ordering.TheVariants.{Less, Equal, Greater}
use Rattle.std.specs.Cmp.Lexicographic.{slice_cmp}
use Rattle.std.specs.List.{AllPairs, Contains}
use Rattle.std.specs.Ordering.{nat_cmp, ordering_reverse, ordering_then}
use Rattle.std.proofs.lemmas.Cmp.{nat_cmp_total, nat_list_cmp_total, on_total, ranked, then_total}
use Rattle.trace_types.specs.Listing.{ListsExactly}
use Rattle.trace_types.specs.NameOrder.{name_cmp, pair_cmp}
use Rattle.trace_types.specs.Segments.{SegmentName}
use Rattle.trace_types.specs.Parts.{Parts, segments_of}
use Rattle.trace_types.specs.Pipelines.{RefutesPipe, RefutesUnshared}
use Rattle.trace_types.specs.Refuting.{RefutesApart, RefutesBefore, RefutesExclusive}
use Rattle.trace_types.specs.Surviving.{IsRefuted}
use Rattle.digest_facts.specs.Facts.{facts_of}
use Rattle.digest_facts.specs.MergeLaws.{HasOneDigest, IsFormed, MergedIsDigest, MergesFreely, NothingIsDigest}
use Rattle.digest_facts.specs.Digests.{Rises, Digest, TellsApart, merged, empty_digest, union}
use Rattle.digest_facts.specs.DigestsOfTraces.{IsPairIn}
use Rattle.digest_facts.proofs.ListLemmas.{HaveSame, any_append, any_in, flat_append_has, flat_in, map_append_has, map_in}
use Rattle.digest_facts.proofs.UnionLemmas.{cons_cases, cons_here, cons_there, head_before, nil_has, pairs_tail, union_has, union_rises}

-- ---- orders
pub nat_apart : TellsApart nat_cmp
nat_apart = record { total = nat_cmp_total; one = λ x y e. ranked x y Equal (sym e) }

both_equal : (a b : Ordering) → ordering_then a b ≡ Equal → (a ≡ Equal) × (b ≡ Equal)
both_equal Less b e = let t : Less ≡ Equal = e in cc
both_equal Equal b e = (refl, e)
both_equal Greater b e = let t : Greater ≡ Equal = e in cc

pub pair_apart : {X : Type 0} (cmp : X → X → Ordering) → TellsApart cmp → TellsApart (pair_cmp cmp)
pair_apart {X} cmp o = record {
  total = then_total (on_total (λ (p : X × X). p.0) o.total) (on_total (λ (p : X × X). p.1) o.total);
  one = λ p q e. let t = both_equal (cmp p.0 q.0) (cmp p.1 q.1) e in λ i. (o.one p.0 q.0 t.0 i, o.one p.1 q.1 t.1 i);
}

text_one : (xs ys : List ℕ) → slice_cmp nat_cmp xs ys ≡ Equal → xs ≡ ys
text_one [] [] e = refl
text_one [] (y ∷ ys) e = let t : Less ≡ Equal = e in cc
text_one (x ∷ xs) [] e = let t : Greater ≡ Equal = e in cc
text_one (x ∷ xs) (y ∷ ys) e =
    let t = both_equal (nat_cmp x y) (slice_cmp nat_cmp xs ys) e in
    let head : x ≡ y = nat_apart.one x y t.0 in
    let tail : xs ≡ ys = text_one xs ys t.1 in
    λ i. head i ∷ tail i

pub text_apart : TellsApart (slice_cmp nat_cmp)
text_apart = record { total = nat_list_cmp_total; one = text_one }

pub name_apart : TellsApart name_cmp
name_apart = record {
  total = then_total (on_total (λ (n : SegmentName). n.0) nat_list_cmp_total) (then_total (on_total (λ (n : SegmentName). n.1) nat_list_cmp_total) (on_total (λ (n : SegmentName). n.2) nat_list_cmp_total));
  one = λ a b e.
      let t = both_equal (slice_cmp nat_cmp a.0 b.0) (ordering_then (slice_cmp nat_cmp a.1 b.1) (slice_cmp nat_cmp a.2 b.2)) e in
      let u = both_equal (slice_cmp nat_cmp a.1 b.1) (slice_cmp nat_cmp a.2 b.2) t.1 in
      let x = text_one a.0 b.0 t.0 in
      let y = text_one a.1 b.1 u.0 in
      let z = text_one a.2 b.2 u.1 in
      λ i. (x i, y i, z i);
}

-- ---- one rising list of the same elements
less_twice : (o p : Ordering) → o ≡ ordering_reverse p → o ≡ Less → p ≡ Less → ⊥
less_twice o Less e l q = let t : Less ≡ Greater = sym l ∙ e in cc
less_twice o Equal e l q = cc
less_twice o Greater e l q = cc

pub one_list : {X : Type 0} (R : X → X → Type 0) → ((x y : X) → R x y → R y x → ⊥) → (xs ys : List X) → AllPairs R xs → AllPairs R ys → ((z : X) → Contains xs z → Contains ys z) → ((z : X) → Contains ys z → Contains xs z) → xs ≡ ys
one_list R asym [] [] p q to from = refl
one_list R asym [] (y ∷ ys) p q to from = absurd (nil_has y (from y (cons_here y ys)))
one_list R asym (x ∷ xs) [] p q to from = absurd (nil_has x (to x (cons_here x xs)))
one_list {X} R asym (x ∷ xs) (y ∷ ys) p q to from =
    ap (λ (z : X). z ∷ xs) same ∙ ap (λ (zs : List X). y ∷ zs) (one_list R asym xs ys (pairs_tail R x xs p) (pairs_tail R y ys q) into back)
  where
    same : x ≡ y
    same = ⊎_elim
        (λ (e : y ≡ x). sym e)
        (λ (later : Contains ys x). ⊎_elim
        (λ (e : x ≡ y). e)
        (λ (other : Contains xs y). absurd (asym x y (head_before R x xs y p other) (head_before R y ys x q later)))
        (cons_cases x xs y (from y (cons_here y ys))))
        (cons_cases y ys x (to x (cons_here x xs)))

    into : (z : X) → Contains xs z → Contains ys z
    into z h = ⊎_elim
        (λ (e : y ≡ z). let r : R x x = subst (R x) (sym (same ∙ e)) (head_before R x xs z p h) in absurd (asym x x r r))
        (λ (there : Contains ys z). there)
        (cons_cases y ys z (to z (cons_there x xs z h)))

    back : (z : X) → Contains ys z → Contains xs z
    back z h = ⊎_elim
        (λ (e : x ≡ z). let r : R y y = subst (R y) (sym (sym same ∙ e)) (head_before R y ys z q h) in absurd (asym y y r r))
        (λ (there : Contains xs z). there)
        (cons_cases x xs z (from z (cons_there y ys z h)))

pub one_rising : {X : Type 0} (cmp : X → X → Ordering) → TellsApart cmp → (xs ys : List X) → Rises cmp xs → Rises cmp ys → HaveSame xs ys → xs ≡ ys
one_rising {X} cmp o xs ys p q same =
    one_list (λ (x y : X). cmp x y ≡ Less) (λ x y. less_twice (cmp x y) (cmp y x) (o.total.antisymm x y)) xs ys p q (λ z. (same z).0) (λ z. (same z).1)

-- no element, where none has the property
none_listed : {X : Type 0} (cmp : X → X → Ordering) (P : X → Type 0) → ((x : X) → P x → ⊥) → ListsExactly cmp P []
none_listed cmp P none = record { rising = λ i j d lt within. absurd (omega arith); exactly = λ x. ((λ c. absurd (nil_has x c)), (λ h. absurd (none x h))) }

-- ---- unions of rising lists
module _ {X : Type 0} (cmp : X → X → Ordering) (o : TellsApart cmp) where
  pub commutes : (xs ys : List X) → Rises cmp xs → Rises cmp ys → union cmp xs ys ≡ union cmp ys xs
  commutes xs ys p q = one_rising cmp o (union cmp xs ys) (union cmp ys xs) (union_rises cmp o xs ys q) (union_rises cmp o ys xs p) (λ z. (
    (λ c. (union_has cmp o ys xs z).1 (turned (Contains xs z) (Contains ys z) ((union_has cmp o xs ys z).0 c))),
    (λ c. (union_has cmp o xs ys z).1 (turned (Contains ys z) (Contains xs z) ((union_has cmp o ys xs z).0 c))),
  ))
    where
      turned : (P Q : Type 0) → P ⊎ Q → Q ⊎ P
      turned P Q s = ⊎_elim (λ (h : P). inr h) (λ (h : Q). inl h) s

  pub associates : (xs ys zs : List X) → Rises cmp ys → Rises cmp zs → union cmp (union cmp xs ys) zs ≡ union cmp xs (union cmp ys zs)
  associates xs ys zs q r = one_rising cmp o (union cmp (union cmp xs ys) zs) (union cmp xs (union cmp ys zs)) (union_rises cmp o (union cmp xs ys) zs r) (union_rises cmp o xs (union cmp ys zs) (union_rises cmp o ys zs r)) (λ z. (
    (λ c. (union_has cmp o xs (union cmp ys zs) z).1 (⊎_elim
        (λ (h : Contains (union cmp xs ys) z). ⊎_elim (λ (k : Contains xs z). inl k) (λ (k : Contains ys z). inr ((union_has cmp o ys zs z).1 (inl k))) ((union_has cmp o xs ys z).0 h))
        (λ (h : Contains zs z). inr ((union_has cmp o ys zs z).1 (inr h)))
        ((union_has cmp o (union cmp xs ys) zs z).0 c))),
    (λ c. (union_has cmp o (union cmp xs ys) zs z).1 (⊎_elim
        (λ (h : Contains xs z). inl ((union_has cmp o xs ys z).1 (inl h)))
        (λ (h : Contains (union cmp ys zs) z). ⊎_elim (λ (k : Contains ys z). inl ((union_has cmp o xs ys z).1 (inr k))) (λ (k : Contains zs z). inr k) ((union_has cmp o ys zs z).0 h))
        ((union_has cmp o xs (union cmp ys zs) z).0 c))),
  ))

  pub nil_rises : Rises cmp []
  nil_rises i j d lt within = absurd (omega arith)

  pub union_nil : (xs : List X) → Rises cmp xs → union cmp xs [] ≡ xs
  union_nil xs p = commutes xs [] p nil_rises

  -- where one list lists P and the other Q, their union lists what is one of the two
  pub union_lists : (P Q R : X → Type 0) (xs ys : List X) → ListsExactly cmp P xs → ListsExactly cmp Q ys → ((x : X) → R x ↔ (P x ⊎ Q x)) → ListsExactly cmp R (union cmp xs ys)
  union_lists P Q R xs ys l m is = record {
    rising = union_rises cmp o xs ys m.rising;
    exactly = λ x. (
      (λ c. (is x).1 (⊎_elim (λ (h : Contains xs x). inl ((l.exactly x).0 h)) (λ (h : Contains ys x). inr ((m.exactly x).0 h)) ((union_has cmp o xs ys x).0 c))),
      (λ r. (union_has cmp o xs ys x).1 (⊎_elim (λ (h : P x). inl ((l.exactly x).1 h)) (λ (h : Q x). inr ((m.exactly x).1 h)) ((is x).0 r))),
    );
  }

  -- what is listed of two properties that hold of the same is one list
  pub one_listed : (P Q : X → Type 0) (xs ys : List X) → ListsExactly cmp P xs → ListsExactly cmp Q ys → ((x : X) → P x → Q x) → ((x : X) → Q x → P x) → xs ≡ ys
  one_listed P Q xs ys l m to back = one_rising cmp o xs ys l.rising m.rising (λ z. ((λ c. (m.exactly z).1 (to z ((l.exactly z).0 c))), (λ c. (l.exactly z).1 (back z ((m.exactly z).0 c)))))

-- ---- digests, field by field
pub same_digest : {N T : Type 0} (s t : Digest N T) → s.traces ≡ t.traces → s.days ≡ t.days → s.names ≡ t.names → s.tasks ≡ t.tasks → s.together ≡ t.together → s.before ≡ t.before → s.exclusive ≡ t.exclusive → s.shared ≡ t.shared → s.pipe ≡ t.pipe → s ≡ t
same_digest s t a b c d e f g h k = λ i. record {
  traces = a i;
  days = b i;
  names = c i;
  tasks = d i;
  together = e i;
  before = f i;
  exclusive = g i;
  shared = h i;
  pipe = k i;
}

module _ {N T : Type 0} (by_name : N → N → Ordering) (by_task : T → T → Ordering) (n : TellsApart by_name) (t : TellsApart by_task) where
  np : TellsApart (pair_cmp by_name)
  np = pair_apart by_name n

  tp : TellsApart (pair_cmp by_task)
  tp = pair_apart by_task t

  pub merges_freely : MergesFreely by_name by_task
  merges_freely = record {
    form = λ x y f g. record {
      days = union_rises nat_cmp nat_apart x.days y.days g.days;
      names = union_rises by_name n x.names y.names g.names;
      tasks = union_rises by_task t x.tasks y.tasks g.tasks;
      together = union_rises (pair_cmp by_name) (pair_apart by_name n) x.together y.together g.together;
      before = union_rises (pair_cmp by_name) (pair_apart by_name n) x.before y.before g.before;
      exclusive = union_rises (pair_cmp by_name) (pair_apart by_name n) x.exclusive y.exclusive g.exclusive;
      shared = union_rises (pair_cmp by_task) (pair_apart by_task t) x.shared y.shared g.shared;
      pipe = union_rises (pair_cmp by_task) (pair_apart by_task t) x.pipe y.pipe g.pipe;
    };
    commutes = λ x y f g. same_digest (merged by_name by_task x y) (merged by_name by_task y x) (omega arith)
        (commutes nat_cmp nat_apart x.days y.days f.days g.days)
        (commutes by_name n x.names y.names f.names g.names)
        (commutes by_task t x.tasks y.tasks f.tasks g.tasks)
        (commutes (pair_cmp by_name) (pair_apart by_name n) x.together y.together f.together g.together)
        (commutes (pair_cmp by_name) (pair_apart by_name n) x.before y.before f.before g.before)
        (commutes (pair_cmp by_name) (pair_apart by_name n) x.exclusive y.exclusive f.exclusive g.exclusive)
        (commutes (pair_cmp by_task) (pair_apart by_task t) x.shared y.shared f.shared g.shared)
        (commutes (pair_cmp by_task) (pair_apart by_task t) x.pipe y.pipe f.pipe g.pipe);
    associates = λ x y z f g h. same_digest (merged by_name by_task (merged by_name by_task x y) z) (merged by_name by_task x (merged by_name by_task y z)) (omega arith)
        (associates nat_cmp nat_apart x.days y.days z.days g.days h.days)
        (associates by_name n x.names y.names z.names g.names h.names)
        (associates by_task t x.tasks y.tasks z.tasks g.tasks h.tasks)
        (associates (pair_cmp by_name) (pair_apart by_name n) x.together y.together z.together g.together h.together)
        (associates (pair_cmp by_name) (pair_apart by_name n) x.before y.before z.before g.before h.before)
        (associates (pair_cmp by_name) (pair_apart by_name n) x.exclusive y.exclusive z.exclusive g.exclusive h.exclusive)
        (associates (pair_cmp by_task) (pair_apart by_task t) x.shared y.shared z.shared g.shared h.shared)
        (associates (pair_cmp by_task) (pair_apart by_task t) x.pipe y.pipe z.pipe g.pipe h.pipe);
    starts = record {
      days = nil_rises nat_cmp nat_apart;
      names = nil_rises by_name n;
      tasks = nil_rises by_task t;
      together = nil_rises (pair_cmp by_name) (pair_apart by_name n);
      before = nil_rises (pair_cmp by_name) (pair_apart by_name n);
      exclusive = nil_rises (pair_cmp by_name) (pair_apart by_name n);
      shared = nil_rises (pair_cmp by_task) (pair_apart by_task t);
      pipe = nil_rises (pair_cmp by_task) (pair_apart by_task t);
    };
    begins = λ x. same_digest (merged by_name by_task empty_digest x) x (omega arith) refl refl refl refl refl refl refl refl;
    ends = λ x f. same_digest (merged by_name by_task x empty_digest) x (omega arith)
        (union_nil nat_cmp nat_apart x.days f.days)
        (union_nil by_name n x.names f.names)
        (union_nil by_task t x.tasks f.tasks)
        (union_nil (pair_cmp by_name) (pair_apart by_name n) x.together f.together)
        (union_nil (pair_cmp by_name) (pair_apart by_name n) x.before f.before)
        (union_nil (pair_cmp by_name) (pair_apart by_name n) x.exclusive f.exclusive)
        (union_nil (pair_cmp by_task) (pair_apart by_task t) x.shared f.shared)
        (union_nil (pair_cmp by_task) (pair_apart by_task t) x.pipe f.pipe);
  }

-- ---- digests of traces
pair_split : {A X : Type 0} (R : X → X → A → Type 0) (xs ys : List A) (pair : X × X) → IsPairIn (λ a b. IsRefuted (R a b) (xs ++ ys)) pair ↔ (IsPairIn (λ a b. IsRefuted (R a b) xs) pair ⊎ IsPairIn (λ a b. IsRefuted (R a b) ys) pair)
pair_split R xs ys pair = (
  (λ h. ⊎_elim (λ (k : IsRefuted (R pair.0 pair.1) xs). inl (h.0, k)) (λ (k : IsRefuted (R pair.0 pair.1) ys). inr (h.0, k)) ((any_append (R pair.0 pair.1) xs ys).0 h.1)),
  (λ s. ⊎_elim (λ (h : IsPairIn (λ a b. IsRefuted (R a b) xs) pair). (h.0, (any_append (R pair.0 pair.1) xs ys).1 (inl h.1)))
      (λ (h : IsPairIn (λ a b. IsRefuted (R a b) ys) pair). (h.0, (any_append (R pair.0 pair.1) xs ys).1 (inr h.1))) s),
)

none_refuted : {A X : Type 0} (R : X → X → A → Type 0) (pair : X × X) → IsPairIn (λ a b. IsRefuted (R a b) []) pair → ⊥
none_refuted R pair h = let lt : h.1.0 < 0 = h.1.2 in absurd (omega arith)

pair_in : {A X : Type 0} (R : X → X → A → Type 0) (xs ys : List A) → ((x : A) → Contains xs x → Contains ys x) → (pair : X × X) → IsPairIn (λ a b. IsRefuted (R a b) xs) pair → IsPairIn (λ a b. IsRefuted (R a b) ys) pair
pair_in R xs ys to pair h = (h.0, any_in (R pair.0 pair.1) xs ys to h.1)

module _ {A S N T E : Type 0} (p : Parts A S N T E) (day : A → ℕ) (by_name : N → N → Ordering) (by_task : T → T → Ordering) where
  pub is_formed : IsFormed p day by_name by_task
  is_formed traces s is = record {
    days = is.days.rising;
    names = is.names.rising;
    tasks = is.tasks.rising;
    together = is.together.rising;
    before = is.before.rising;
    exclusive = is.exclusive.rising;
    shared = is.shared.rising;
    pipe = is.pipe.rising;
  }

  pub nothing_is : NothingIsDigest p day by_name by_task
  nothing_is = record {
    count = refl;
    days = none_listed nat_cmp (Contains (map day [])) (λ x c. nil_has x c);
    names = none_listed by_name (Contains (map p.name (segments_of p []))) (λ x c. nil_has x c);
    tasks = none_listed by_task (Contains (map p.task (segments_of p []))) (λ x c. nil_has x c);
    together = none_listed (pair_cmp by_name) (IsPairIn (facts_of p []).apart) (none_refuted (RefutesApart p));
    before = none_listed (pair_cmp by_name) (IsPairIn (facts_of p []).before) (none_refuted (RefutesBefore p));
    exclusive = none_listed (pair_cmp by_name) (IsPairIn (facts_of p []).exclusive) (none_refuted (RefutesExclusive p));
    shared = none_listed (pair_cmp by_task) (IsPairIn (facts_of p []).unshared) (none_refuted (RefutesUnshared p));
    pipe = none_listed (pair_cmp by_task) (IsPairIn (facts_of p []).pipe) (none_refuted (RefutesPipe p));
  }

  module _ (n : TellsApart by_name) (t : TellsApart by_task) where
    pub has_one : HasOneDigest p day by_name by_task
    has_one xs ys s u e same is that =
        let to : (x : A) → Contains xs x → Contains ys x = λ x. (same x).0 in
        let back : (x : A) → Contains ys x → Contains xs x = λ x. (same x).1 in
        same_digest s u (is.count ∙ e ∙ sym that.count)
        (one_listed nat_cmp nat_apart (Contains (map day xs)) (Contains (map day ys)) s.days u.days is.days that.days (map_in day xs ys to) (map_in day ys xs back))
        (one_listed by_name n (Contains (map p.name (segments_of p xs))) (Contains (map p.name (segments_of p ys))) s.names u.names is.names that.names
        (map_in p.name (segments_of p xs) (segments_of p ys) (flat_in p.segments xs ys to)) (map_in p.name (segments_of p ys) (segments_of p xs) (flat_in p.segments ys xs back)))
        (one_listed by_task t (Contains (map p.task (segments_of p xs))) (Contains (map p.task (segments_of p ys))) s.tasks u.tasks is.tasks that.tasks
        (map_in p.task (segments_of p xs) (segments_of p ys) (flat_in p.segments xs ys to)) (map_in p.task (segments_of p ys) (segments_of p xs) (flat_in p.segments ys xs back)))
        (one_listed (pair_cmp by_name) (pair_apart by_name n) (IsPairIn (facts_of p xs).apart) (IsPairIn (facts_of p ys).apart) s.together u.together is.together that.together (pair_in (RefutesApart p) xs ys to) (pair_in (RefutesApart p) ys xs back))
        (one_listed (pair_cmp by_name) (pair_apart by_name n) (IsPairIn (facts_of p xs).before) (IsPairIn (facts_of p ys).before) s.before u.before is.before that.before (pair_in (RefutesBefore p) xs ys to) (pair_in (RefutesBefore p) ys xs back))
        (one_listed (pair_cmp by_name) (pair_apart by_name n) (IsPairIn (facts_of p xs).exclusive) (IsPairIn (facts_of p ys).exclusive) s.exclusive u.exclusive is.exclusive that.exclusive (pair_in (RefutesExclusive p) xs ys to) (pair_in (RefutesExclusive p) ys xs back))
        (one_listed (pair_cmp by_task) (pair_apart by_task t) (IsPairIn (facts_of p xs).unshared) (IsPairIn (facts_of p ys).unshared) s.shared u.shared is.shared that.shared (pair_in (RefutesUnshared p) xs ys to) (pair_in (RefutesUnshared p) ys xs back))
        (one_listed (pair_cmp by_task) (pair_apart by_task t) (IsPairIn (facts_of p xs).pipe) (IsPairIn (facts_of p ys).pipe) s.pipe u.pipe is.pipe that.pipe (pair_in (RefutesPipe p) xs ys to) (pair_in (RefutesPipe p) ys xs back))

    pub merged_is : MergedIsDigest p day by_name by_task
    merged_is xs ys s u is that = record {
      count = let l = length-append xs ys in let a : s.traces ≡ length xs = is.count in let b : u.traces ≡ length ys = that.count in omega arith;
      days = union_lists nat_cmp nat_apart (Contains (map day xs)) (Contains (map day ys)) (Contains (map day (xs ++ ys))) s.days u.days is.days that.days (map_append_has day xs ys);
      names = union_lists by_name n (Contains (map p.name (segments_of p xs))) (Contains (map p.name (segments_of p ys))) (Contains (map p.name (segments_of p (xs ++ ys)))) s.names u.names is.names that.names (flat_append_has p.segments p.name xs ys);
      tasks = union_lists by_task t (Contains (map p.task (segments_of p xs))) (Contains (map p.task (segments_of p ys))) (Contains (map p.task (segments_of p (xs ++ ys)))) s.tasks u.tasks is.tasks that.tasks (flat_append_has p.segments p.task xs ys);
      together = union_lists (pair_cmp by_name) (pair_apart by_name n) (IsPairIn (facts_of p xs).apart) (IsPairIn (facts_of p ys).apart) (IsPairIn (facts_of p (xs ++ ys)).apart) s.together u.together is.together that.together (pair_split (RefutesApart p) xs ys);
      before = union_lists (pair_cmp by_name) (pair_apart by_name n) (IsPairIn (facts_of p xs).before) (IsPairIn (facts_of p ys).before) (IsPairIn (facts_of p (xs ++ ys)).before) s.before u.before is.before that.before (pair_split (RefutesBefore p) xs ys);
      exclusive = union_lists (pair_cmp by_name) (pair_apart by_name n) (IsPairIn (facts_of p xs).exclusive) (IsPairIn (facts_of p ys).exclusive) (IsPairIn (facts_of p (xs ++ ys)).exclusive) s.exclusive u.exclusive is.exclusive that.exclusive (pair_split (RefutesExclusive p) xs ys);
      shared = union_lists (pair_cmp by_task) (pair_apart by_task t) (IsPairIn (facts_of p xs).unshared) (IsPairIn (facts_of p ys).unshared) (IsPairIn (facts_of p (xs ++ ys)).unshared) s.shared u.shared is.shared that.shared (pair_split (RefutesUnshared p) xs ys);
      pipe = union_lists (pair_cmp by_task) (pair_apart by_task t) (IsPairIn (facts_of p xs).pipe) (IsPairIn (facts_of p ys).pipe) (IsPairIn (facts_of p (xs ++ ys)).pipe) s.pipe u.pipe is.pipe that.pipe (pair_split (RefutesPipe p) xs ys);
    }
