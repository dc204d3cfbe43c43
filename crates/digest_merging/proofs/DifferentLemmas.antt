-- The different elements of a sorted list.
use Rattle.std.proofs.Common.{◌≡◌, ◌↔◌, ℕ, ◌+◌, ◌-◌, ◌<◌, ◌≤◌, List, [], ◌∷◌, ◌++◌, length, get_or, map, refl, sym, ap, ◌∙◌, subst, ⊎_elim, arith, false, true, Ordering, IsPermutation, true≢false}
use Rattle.std.specs.List.{Contains}
use Rattle.std.specs.Prelude.{IsSortedByKey}
use Rattle.std.specs.Bool.{◌==◌}
use Rattle.std.specs.Ordering.{is_lt, ordering_index, ordering_reverse}
use Rattle.std.specs.declared.cmp.Ordering.TheVariants.{Less, Equal, Greater}
use Rattle.std.proofs.lemmas.Bool.{cases_lt}
use Rattle.std.proofs.lemmas.List.{get_or-map, get_or_default, length-append, length-map}
use Rattle.std.proofs.lemmas.List.Elements.{Contains-append_left, Contains-append_right, Contains-append_cases, Contains-get_or}
use Rattle.std.proofs.lemmas.List.Quantifiers.{all_pairs_push}
use Rattle.std.proofs.lemmas.List.Sorted.{Contains-permutation, IsPermutation-sym, ranks_by, sorted_far}
use Rattle.trace_types.proofs.ElementLemmas.{at_index}
use Rattle.digest_facts.specs.Digests.{Rises, TellsApart}
use Rattle.digest_facts.proofs.MergeLemmas.{one_rising}
use Rattle.digest_facts.proofs.ListLemmas.{from_map, to_map}
use Rattle.digest_facts.proofs.UnionLemmas.{cons_cases, cons_here, nil_has}

module _ {X : Type 0} (cmp : X → X → Ordering) (o : TellsApart cmp) where
  greater_turned : (x y : X) → cmp x y ≡ Greater → cmp y x ≡ Less
  greater_turned x y e = o.total.antisymm y x ∙ ap ordering_reverse e

  -- an order is Less where its index is 0
  pub less_by_index : (c : Ordering) → true ≡ (ordering_index c == 0) → c ≡ Less
  less_by_index Less e = refl
  less_by_index Equal e = cc
  less_by_index Greater e = cc

  pub not_less_by_index : (c : Ordering) → false ≡ (ordering_index c == 0) → c ≡ Less → ⊥
  not_less_by_index Less e f = cc
  not_less_by_index Equal e f = cc
  not_less_by_index Greater e f = cc

  -- so many different elements are among the first k of a list
  pub record CountsFirst (items : List X) (k count : ℕ) : Type 0 where
    pub all : List X
    pub rises : Rises cmp all
    pub same : (x : X) → Contains all x ↔ ((j : ℕ) × (j < k) × (j < length items) × (get_or items j x ≡ x))
    pub size : length all ≡ count

  pub counts_none : (items : List X) → CountsFirst items 0 0
  counts_none items = record {
    all = [];
    rises = λ i j d lt within. absurd (omega arith);
    same = λ x. ((λ c. absurd (nil_has x c)), (λ h. let lt : h.0 < 0 = h.1 in absurd (omega arith)));
    size = refl;
  }

  -- a greater element is one more
  pub counts_more : (items : List X) (k count : ℕ) (x : X) → k < length items → x ≡ get_or items k x → ((j : ℕ) → j < k → cmp (get_or items j x) x ≡ Less) → CountsFirst items k count → CountsFirst items (k + 1) (count + 1)
  counts_more items k count x within at above h = record {
    all = h.all ++ x ∷ [];
    rises = all_pairs_push (λ (a b : X). cmp a b ≡ Less) h.all x h.rises (λ j d lt.
        let there = (h.same (get_or h.all j d)).0 (Contains-get_or h.all j d lt) in
        let up : cmp (get_or items there.0 x) x ≡ Less = above there.0 there.1 in
        subst (λ (v : X). cmp v x ≡ Less) (get_or_default items there.0 x (get_or h.all j d) there.2 ∙ there.3) up);
    same = λ y. (
      (λ c. ⊎_elim
          (λ (l : Contains h.all y). let r = (h.same y).0 l in (r.0, omega (arith, r.1), r.2, r.3))
          (λ (r : Contains (x ∷ []) y). ⊎_elim
          (λ (e : x ≡ y). (k, omega arith, within, get_or_default items k y x within ∙ sym at ∙ e))
          (λ (n : Contains [] y). absurd (nil_has y n))
          (cons_cases x [] y r))
          (Contains-append_cases h.all (x ∷ []) y c)),
      (λ r. ⊎_elim
          (λ (lt : r.0 < k). Contains-append_left h.all (x ∷ []) y ((h.same y).1 (r.0, lt, r.2, r.3)))
          (λ (ge : k ≤ r.0).
          let e : r.0 ≡ k = omega (arith, r.1, ge) in
          let one : x ≡ y = at ∙ get_or_default items k x y within ∙ ap (λ (n : ℕ). get_or items n y) (sym e) ∙ r.3 in
          Contains-append_right h.all (x ∷ []) y (subst (λ (v : X). Contains (x ∷ []) v) one (cons_here x [])))
          (cases_lt r.0 k)),
    );
    size = let l = length-append h.all (x ∷ []) in omega (arith, l, h.size);
  }

  -- one that stands among those before is none
  pub counts_same : (items : List X) (k count j : ℕ) (x : X) → k < length items → j < k → x ≡ get_or items k x → get_or items j x ≡ x → CountsFirst items k count → CountsFirst items (k + 1) count
  counts_same items k count j x within before at that h = record {
    all = h.all;
    rises = h.rises;
    same = λ y. (
      (λ c. let r = (h.same y).0 c in (r.0, omega (arith, r.1), r.2, r.3)),
      (λ r. ⊎_elim
          (λ (lt : r.0 < k). (h.same y).1 (r.0, lt, r.2, r.3))
          (λ (ge : k ≤ r.0).
          let e : r.0 ≡ k = omega (arith, r.1, ge) in
          let one : x ≡ y = at ∙ get_or_default items k x y within ∙ ap (λ (n : ℕ). get_or items n y) (sym e) ∙ r.3 in
          (h.same y).1 (j, before, omega (arith, before, within), get_or_default items j y x (omega (arith, before, within)) ∙ that ∙ one))
          (cases_lt r.0 k)),
    );
    size = h.size;
  }

  -- all different elements, as many as a list that rises has which has the same elements
  pub counted : (items : List X) (count : ℕ) (xs : List X) → CountsFirst items (length items) count → Rises cmp xs → ((x : X) → Contains xs x ↔ Contains items x) → count ≡ length xs
  counted items count xs h up same =
      sym h.size ∙ ap (λ (l : List X). length l) (one_rising cmp o h.all xs h.rises up (λ x. (
        (λ c. let r = (h.same x).0 c in (same x).1 (r.0, r.2, r.3)),
        (λ c. let r = (same x).0 c in (h.same x).1 (r.0, r.1, r.1, r.2)),
      )))

  -- ---- of things that are sorted by what they refer to
  module _ {Y : Type 0} (f : Y → X) (items : List Y) (sorted : IsSortedByKey f cmp items) where
    no_greater : (i j : ℕ) (y : Y) → i ≤ j → j < length items → is_lt (cmp (f (get_or items j y)) (f (get_or items i y))) ≡ false
    no_greater i j y le within = sorted_far (λ a b. is_lt (cmp (f a) (f b))) (ranks_by o.total f) items sorted i j y le within

    key_at : (k : ℕ) (y : Y) (x : X) → k < length items → get_or (map f items) k x ≡ f (get_or items k y)
    key_at k y x within = get_or_default (map f items) k x (f y) (omega (arith, within, length-map items f)) ∙ get_or-map f items k y (f y) within

    less_up : (a b c : X) → is_lt (cmp b a) ≡ false → cmp b c ≡ Less → cmp a c ≡ Less
    less_up a b c not_less up = by (cmp b a) refl
      where
        by : (p : Ordering) → cmp b a ≡ p → cmp a c ≡ Less
        by Less e = absurd (true≢false (sym (ap is_lt e) ∙ not_less))
        by Equal e = subst (λ (v : X). cmp v c ≡ Less) (o.one b a e) up
        by Greater e = o.total.trans a b c (o.total.antisymm a b ∙ ap ordering_reverse e) up

    equal : (a b : X) → is_lt (cmp b a) ≡ false → (cmp a b ≡ Less → ⊥) → a ≡ b
    equal a b far none = by (cmp a b) refl
      where
        by : (p : Ordering) → cmp a b ≡ p → a ≡ b
        by Less e = absurd (none e)
        by Equal e = o.one a b e
        by Greater e = absurd (true≢false (sym (ap is_lt (greater_turned a b e)) ∙ far))

    module _ (k count : ℕ) (y : Y) (within : k < length items) (at : y ≡ get_or items k y) (h : CountsFirst (map f items) k count) where
      long : k < length (map f items)
      long = omega (arith, within, length-map items f)

      here : f y ≡ get_or (map f items) k (f y)
      here = ap f at ∙ sym (key_at k y (f y) within)

      pub step_first : k ≡ 0 → CountsFirst (map f items) (k + 1) (count + 1)
      step_first e = counts_more (map f items) k count (f y) long here (λ j lt. absurd (omega (arith, e, lt))) h

      module _ (before : Y) (last : before ≡ get_or items (k - 1) before) (some : 0 < k) where
        near : get_or (map f items) (k - 1) (f y) ≡ f before
        near = key_at (k - 1) before (f y) (omega (arith, within)) ∙ ap f (sym last)

        pub step_more : cmp (f before) (f y) ≡ Less → CountsFirst (map f items) (k + 1) (count + 1)
        step_more up = counts_more (map f items) k count (f y) long here (λ j lt.
            let far : is_lt (cmp (f (get_or items (k - 1) before)) (f (get_or items j before))) ≡ false = no_greater j (k - 1) before (omega (arith, lt)) (omega (arith, within)) in
            let is : get_or (map f items) j (f y) ≡ f (get_or items j before) = key_at j before (f y) (omega (arith, lt, within)) in
            subst (λ (v : X). cmp v (f y) ≡ Less) (sym is) (less_up (f (get_or items j before)) (f before) (f y) (subst (λ (v : Y). is_lt (cmp (f v) (f (get_or items j before))) ≡ false) (sym last) far) up)) h

        pub step_same : (cmp (f before) (f y) ≡ Less → ⊥) → CountsFirst (map f items) (k + 1) count
        step_same none =
            let far : is_lt (cmp (f (get_or items k before)) (f (get_or items (k - 1) before))) ≡ false = no_greater (k - 1) k before (omega (arith, some)) within in
            let there : y ≡ get_or items k before = at ∙ get_or_default items k y before within in
            let far' : is_lt (cmp (f y) (f before)) ≡ false = subst (λ (v : Y). is_lt (cmp (f y) (f v)) ≡ false) (sym last) (subst (λ (v : Y). is_lt (cmp (f v) (f (get_or items (k - 1) before))) ≡ false) (sym there) far) in
            counts_same (map f items) k count (k - 1) (f y) long (omega (arith, some)) here (near ∙ equal (f before) (f y) far' none) h

    -- the first of all is one
    pub step_start : (k count : ℕ) → k < length items → k ≡ 0 → CountsFirst (map f items) k count → CountsFirst (map f items) (k + 1) (count + 1)
    step_start k count within e h =
        let r = at_index items k within in
        step_first k count (get_or items k r.0) within (get_or_default items k r.0 (get_or items k r.0) within) h e

    -- the count of a list that was sorted
    pub counted_sorted : (old : List Y) (count : ℕ) (xs : List X) → IsPermutation old items → CountsFirst (map f items) (length items) count → Rises cmp xs → ((x : X) → Contains xs x ↔ Contains (map f old) x) → count ≡ length xs
    counted_sorted old count xs moved h up same = counted (map f items) count xs (subst (λ (n : ℕ). CountsFirst (map f items) n count) (sym (length-map items f)) h) up (λ x. (
      (λ c. let r = from_map f old x ((same x).0 c) in subst (λ (v : X). Contains (map f items) v) r.2 (to_map f items r.0 (Contains-permutation old items r.0 moved r.1))),
      (λ c. let r = from_map f items x c in (same x).1 (subst (λ (v : X). Contains (map f old) v) r.2 (to_map f old r.0 (Contains-permutation items old r.0 (IsPermutation-sym old items moved) r.1)))),
    ))
