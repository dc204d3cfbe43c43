-- Pairs of listed texts that pass a test on their numbers.
use Rattle.std.proofs.Common.{◌≡◌, ◌≢◌, ◌⊎◌, ◌↔◌, ℕ, ◌&&◌, Bool, true, false, true≢false, List, [], ◌∷◌, map, filter, cond, refl, sym, ap, ◌∙◌, subst, ⊎_elim, inl, inr, arith, Ordering}
use Rattle.std.specs.Prelude.{AllPairs, Contains}
use Rattle.std.specs.List.{flat_map}
use Rattle.std.specs.declared.cmp.Ordering.TheVariants.{Less, Equal, Greater}
use Rattle.std.proofs.lemmas.Bool.{and_parts}
use Rattle.std.proofs.lemmas.Cmp.{tied_itself}
use Rattle.kept_names.proofs.ListingLemmas.{one_number, texts_of}
use Rattle.trace_types.specs.Listing.{ListsExactly}
use Rattle.trace_types.specs.NameOrder.{pair_cmp}
use Rattle.digest_facts.specs.Digests.{Rises, TellsApart, union}
use Rattle.digest_facts.specs.DigestsOfTraces.{IsPairIn}
use Rattle.digest_facts.specs.Tables.{has}
use Rattle.digest_facts.proofs.ListLemmas.{from_flat, from_map, to_flat, to_map}
use Rattle.digest_facts.proofs.MergeLemmas.{pair_apart}
use Rattle.digest_facts.proofs.TableLemmas.{has_from, has_to}
use Rattle.digest_facts.proofs.UnionLemmas.{cons_cases, cons_here, cons_there, nil_has, union_has, union_rises}

-- ---- filters and pairs
kept_in : {X : Type 0} (p : X → Bool) (xs : List X) (x : X) → Contains (filter p xs) x → Contains xs x × (p x ≡ true)
kept_in p [] x c = absurd (nil_has x c)
kept_in {X} p (y ∷ ys) x c = by (p y) refl (kept_in p ys x) c
  where
    by : (b : Bool) → p y ≡ b → (Contains (filter p ys) x → Contains ys x × (p x ≡ true)) → Contains (cond b (y ∷ filter p ys) (filter p ys)) x → Contains (y ∷ ys) x × (p x ≡ true)
    by true e rest d = ⊎_elim
        (λ (q : y ≡ x). (subst (λ (v : X). Contains (y ∷ ys) v) q (cons_here y ys), sym (ap p q) ∙ e))
        (λ (q : Contains (filter p ys) x). (cons_there y ys x (rest q).0, (rest q).1))
        (cons_cases y (filter p ys) x d)
    by false e rest d = (cons_there y ys x (rest d).0, (rest d).1)

kept_has : {X : Type 0} (p : X → Bool) (xs : List X) (x : X) → Contains xs x → p x ≡ true → Contains (filter p xs) x
kept_has p [] x c h = absurd (nil_has x c)
kept_has {X} p (y ∷ ys) x c h = by (p y) refl (λ d. kept_has p ys x d h) (cons_cases y ys x c)
  where
    by : (b : Bool) → p y ≡ b → (Contains ys x → Contains (filter p ys) x) → (y ≡ x) ⊎ Contains ys x → Contains (cond b (y ∷ filter p ys) (filter p ys)) x
    by true e rest s = ⊎_elim
        (λ (q : y ≡ x). subst (λ (v : X). Contains (y ∷ filter p ys) v) q (cons_here y (filter p ys)))
        (λ (q : Contains ys x). cons_there y (filter p ys) x (rest q))
        s
    by false e rest s = ⊎_elim
        (λ (q : y ≡ x). absurd (true≢false (sym (ap p q ∙ h) ∙ e)))
        (λ (q : Contains ys x). rest q)
        s

abbrev all_pairs : {X : Type 0} → List X → List (X × X)
all_pairs {X} xs = flat_map (λ (a : X). map (λ (b : X). (a, b)) xs) xs

pair_of : {X : Type 0} (xs : List X) (a b : X) → Contains xs a → Contains xs b → Contains (all_pairs xs) (a, b)
pair_of {X} xs a b c d = to_flat (λ (x : X). map (λ (y : X). (x, y)) xs) xs a (a, b) c (to_map (λ (y : X). (a, y)) xs b d)

in_pair : {X : Type 0} (xs : List X) (a b : X) → Contains (all_pairs xs) (a, b) → Contains xs a × Contains xs b
in_pair {X} xs a b c =
    let r = from_flat (λ (x : X). map (λ (y : X). (x, y)) xs) xs (a, b) c in
    let q = from_map (λ (y : X). (r.0, y)) xs (a, b) r.2 in
    let first : r.0 ≡ a = ap (λ (p : X × X). p.0) q.2 in
    let second : q.0 ≡ b = ap (λ (p : X × X). p.1) q.2 in
    (subst (λ (v : X). Contains xs v) first r.1, subst (λ (v : X). Contains xs v) second q.1)

-- ---- the number of a text
abbrev number_by : Ordering → ℕ → ℕ → ℕ
number_by Less n rest = rest
number_by Equal n rest = n
number_by Greater n rest = rest

abbrev is_other : Ordering → Bool
is_other Less = true
is_other Equal = false
is_other Greater = true

same_tests : (a b : Bool) → (a ≡ true → b ≡ true) → (b ≡ true → a ≡ true) → a ≡ b
same_tests true b f g = sym (f refl)
same_tests false true f g = g refl
same_tests false false f g = refl

module _ {X : Type 0} (cmp : X → X → Ordering) (o : TellsApart cmp) where
  abbrev number_in : List (X × ℕ) → X → ℕ
  number_in [] x = 0
  number_in (i ∷ items) x = number_by (cmp i.0 x) i.1 (number_in items x)

  number_there : (items : List (X × ℕ)) (x : X) (m : ℕ) → Contains items (x, m) → Contains items (x, number_in items x)
  number_there [] x m c = absurd (nil_has (x, m) c)
  number_there (i ∷ items) x m c = by (cmp i.0 x) refl (number_there items x m) (cons_cases i items (x, m) c)
    where
      not_tied : (d : Ordering) → (d ≡ Equal → ⊥) → i.0 ≡ x → cmp i.0 x ≡ d → ⊥
      not_tied d other f g = other (sym g ∙ subst (λ (v : X). cmp i.0 v ≡ Equal) f (tied_itself o.total i.0))

      by : (d : Ordering) → cmp i.0 x ≡ d → (Contains items (x, m) → Contains items (x, number_in items x)) → (i ≡ (x, m)) ⊎ Contains items (x, m) → Contains (i ∷ items) (x, number_by d i.1 (number_in items x))
      by Equal e rest s = subst (λ (v : X). Contains (i ∷ items) (v, i.1)) (o.one i.0 x e) (cons_here i items)
      by Less e rest (inl q) = absurd (not_tied Less (λ t. cc) (ap (λ (v : X × ℕ). v.0) q) e)
      by Less e rest (inr q) = cons_there i items (x, number_in items x) (rest q)
      by Greater e rest (inl q) = absurd (not_tied Greater (λ t. cc) (ap (λ (v : X × ℕ). v.0) q) e)
      by Greater e rest (inr q) = cons_there i items (x, number_in items x) (rest q)

  other_is : (a b : X) → is_other (cmp a b) ≡ true → a ≢ b
  other_is a b h e = let t : cmp a b ≡ Equal = subst (λ (v : X). cmp a v ≡ Equal) e (tied_itself o.total a) in true≢false (sym h ∙ ap is_other t)

  is_other_of : (a b : X) → a ≢ b → is_other (cmp a b) ≡ true
  is_other_of a b differ = by (cmp a b) refl
    where
      by : (c : Ordering) → cmp a b ≡ c → is_other c ≡ true
      by Less e = refl
      by Equal e = absurd (differ (o.one a b e))
      by Greater e = refl

  module _ (items : List (X × ℕ)) (rising : AllPairs (λ (i j : X × ℕ). cmp i.0 j.0 ≡ Less) items) (test : ℕ → ℕ → Bool) where
    abbrev passes : X × X → Bool
    passes p = is_other (cmp p.0 p.1) && test (number_in items p.0) (number_in items p.1)

    -- the pairs of two different texts that pass, rising
    abbrev pub pairs_by : List (X × X)
    pairs_by = union (pair_cmp cmp) (filter passes (all_pairs (texts_of items))) []

    text_there : (x : X) (m : ℕ) → Contains items (x, m) → Contains (texts_of items) x
    text_there x m c = to_map (λ (i : X × ℕ). i.0) items (x, m) c

    item_of : (x : X) → Contains (texts_of items) x → Contains items (x, number_in items x)
    item_of x c =
        let r = from_map (λ (i : X × ℕ). i.0) items x c in
        number_there items x r.0.1 (subst (λ (v : X). Contains items (v, r.0.1)) r.2 r.1)

    number_is : (x : X) (m : ℕ) → Contains items (x, m) → number_in items x ≡ m
    number_is x m c = one_number cmp o.total items rising x (number_in items x) m (number_there items x m c) c

    pub pairs_rise : Rises (pair_cmp cmp) pairs_by
    pairs_rise = union_rises (pair_cmp cmp) (pair_apart cmp o) (filter passes (all_pairs (texts_of items))) [] (λ i j d lt within. absurd (omega arith))

    pair_to : (a b : X) → Contains pairs_by (a, b) → Contains (texts_of items) a × Contains (texts_of items) b × (passes (a, b) ≡ true)
    pair_to a b c =
        let there : Contains (filter passes (all_pairs (texts_of items))) (a, b) = ⊎_elim (λ (k : Contains (filter passes (all_pairs (texts_of items))) (a, b)). k) (λ (k : Contains [] (a, b)). absurd (nil_has (a, b) k)) ((union_has (pair_cmp cmp) (pair_apart cmp o) (filter passes (all_pairs (texts_of items))) [] (a, b)).0 c) in
        let k = kept_in passes (all_pairs (texts_of items)) (a, b) there in
        let both = in_pair (texts_of items) a b k.0 in
        (both.0, both.1, k.1)

    pair_from : (a b : X) → Contains (texts_of items) a → Contains (texts_of items) b → passes (a, b) ≡ true → Contains pairs_by (a, b)
    pair_from a b c d h = (union_has (pair_cmp cmp) (pair_apart cmp o) (filter passes (all_pairs (texts_of items))) [] (a, b)).1 (inl (kept_has passes (all_pairs (texts_of items)) (a, b) (pair_of (texts_of items) a b c d) h))

    both_true : (a b : Bool) → a ≡ true → b ≡ true → (a && b) ≡ true
    both_true a b e f = rw (e, f) refl

    -- whether two items' pair is there
    pub has_is : (i j : X × ℕ) → Contains items i → Contains items j → i.0 ≢ j.0 → has (pair_cmp cmp) pairs_by (i.0, j.0) ≡ test i.1 j.1
    has_is i j c d differ =
        let m : number_in items i.0 ≡ i.1 = number_is i.0 i.1 c in
        let n : number_in items j.0 ≡ j.1 = number_is j.0 j.1 d in
        let at : test (number_in items i.0) (number_in items j.0) ≡ test i.1 j.1 = λ k. test (m k) (n k) in
        same_tests (has (pair_cmp cmp) pairs_by (i.0, j.0)) (test i.1 j.1)
        (λ e. let p = pair_to i.0 j.0 (has_to (pair_cmp cmp) (pair_apart cmp o) pairs_by (i.0, j.0) e) in sym at ∙ (and_parts (is_other (cmp i.0 j.0)) (test (number_in items i.0) (number_in items j.0)) p.2).1)
        (λ e. has_from (pair_cmp cmp) (pair_apart cmp o) pairs_by (i.0, j.0) (pair_from i.0 j.0 (text_there i.0 i.1 c) (text_there j.0 j.1 d) (both_true (is_other (cmp i.0 j.0)) (test (number_in items i.0) (number_in items j.0)) (is_other_of i.0 j.0 differ) (at ∙ e))))

    -- the pairs are those in a relation, where the test tells it of two items and it holds of items alone
    pub lists_pairs : (R : X → X → Type 0) → ((i j : X × ℕ) → Contains items i → Contains items j → i.0 ≢ j.0 → (test i.1 j.1 ≡ true) ↔ R i.0 j.0) → ((a b : X) → R a b → Contains (texts_of items) a × Contains (texts_of items) b) → ListsExactly (pair_cmp cmp) (IsPairIn R) pairs_by
    lists_pairs R tell occur = record {
      rising = pairs_rise;
      exactly = λ p. (
        (λ c.
            let k = pair_to p.0 p.1 c in
            let t = and_parts (is_other (cmp p.0 p.1)) (test (number_in items p.0) (number_in items p.1)) k.2 in
            let differ : p.0 ≢ p.1 = other_is p.0 p.1 t.0 in
            (differ, (tell (p.0, number_in items p.0) (p.1, number_in items p.1) (item_of p.0 k.0) (item_of p.1 k.1) differ).0 t.1)),
        (λ h.
            let k = occur p.0 p.1 h.1 in
            let t = (tell (p.0, number_in items p.0) (p.1, number_in items p.1) (item_of p.0 k.0) (item_of p.1 k.1) h.0).1 h.1 in
            pair_from p.0 p.1 k.0 k.1 (both_true (is_other (cmp p.0 p.1)) (test (number_in items p.0) (number_in items p.1)) (is_other_of p.0 p.1 h.0) t)),
      );
    }
