-- Contexts stand once in their order.
use Rattle.std.proofs.Common.{◌≡◌, ◌≢◌, ◌⊎◌, inl, inr, ℕ, zero, suc, ◌+◌, ◌<◌, ◌≤◌, List, [], ◌∷◌, ◌++◌, All, Bool, true, false, cond, Option, Some, None, length, get_or, map, filter, refl, sym, ap, ◌∙◌, subst, true≢false, arith, eq-eqb, eqb}
use Rattle.std.specs.Prelude.{is_none, not, slice_index_or}
use Rattle.std.specs.List.{count_by, flat_map, range_with_len}
use Rattle.std.proofs.lemmas.Bool.{cases_eq, cases_lt, ne_eqb}
use Rattle.std.proofs.lemmas.List.{get_or_past}
use Rattle.std.proofs.lemmas.List.Elements.{All-append, All-cons, All-filter, All-head, All-nil, All-tail, filter_passes}
use Rattle.std.proofs.lemmas.List.Sorted.{sum_by-IsPermutation}
use Rattle.std.proofs.lemmas.List.Sums.{sum_by-append, sum_by-cons}
use Rattle.call_trees.specs.Below.{below_all, is_number}
use Rattle.call_trees.specs.Walks.{walk_from}
use Rattle.call_trees.proofs.GroupLemmas.{group_at, groups_length}
use Rattle.call_contexts.specs.ContextOrder.{AreOrdered, all_above, first_of, title_of}
use Rattle.call_contexts.specs.Contexts.{Frame, HaveAbove}
use Rattle.context_names.specs.inner.Groups.{AreBelow}
use Rattle.context_names.proofs.MemberLemmas.{In}
use Rattle.context_names.proofs.OrderLemmas.{above_less, below_low, order_has, titled_within}

-- ---- counts

abbrev bit : Bool → ℕ
bit b = cond b 1 0

bit_low : (b : Bool) → bit b ≤ 1
bit_low true = omega arith
bit_low false = omega arith

-- how often a number stands in a list
abbrev pub count : ℕ → List ℕ → ℕ
count x xs = count_by (λ n. eqb n x) xs

count-cons : (p : ℕ → Bool) (x : ℕ) (xs : List ℕ) → count_by p (x ∷ xs) ≡ bit (p x) + count_by p xs
count-cons p x xs = sum_by-cons (λ y. bit (p y)) x xs

count-append : (p : ℕ → Bool) (xs ys : List ℕ) → count_by p (xs ++ ys) ≡ count_by p xs + count_by p ys
count-append p xs ys = sum_by-append (λ y. bit (p y)) xs ys

count_none : (p : ℕ → Bool) (xs : List ℕ) → ((x : ℕ) → p x ≡ false) → count_by p xs ≡ 0
count_none p [] h = refl
count_none p (x ∷ xs) h = omega (arith, count-cons p x xs, ap bit (h x), count_none p xs h)

filter_count : (p f : ℕ → Bool) (xs : List ℕ) → count_by p (filter f xs) ≤ count_by p xs
filter_count p f [] = omega arith
filter_count p f (x ∷ xs) = by (f x) (filter_count p f xs)
  where
    by : (b : Bool) → count_by p (filter f xs) ≤ count_by p xs → count_by p (cond b (x ∷ filter f xs) (filter f xs)) ≤ count_by p (x ∷ xs)
    by true rest = omega (arith, count-cons p x (filter f xs), count-cons p x xs, rest)
    by false rest = omega (arith, count-cons p x xs, rest)

-- a filter that drops what is counted
filter_drops : (x : ℕ) (f : ℕ → Bool) (xs : List ℕ) → f x ≡ false → count x (filter f xs) ≡ 0
filter_drops x f [] h = refl
filter_drops x f (y ∷ xs) h = by (f y) refl (filter_drops x f xs h)
  where
    by : (b : Bool) → f y ≡ b → count x (filter f xs) ≡ 0 → count x (cond (f y) (y ∷ filter f xs) (filter f xs)) ≡ 0
    by true e rest =
        ap (λ b. count x (cond b (y ∷ filter f xs) (filter f xs))) e
        ∙ (let other : eqb y x ≡ false = ne_eqb y x (λ q. true≢false (sym e ∙ ap f q ∙ h)) in let c : count x (y ∷ filter f xs) ≡ 0 = omega (arith, count-cons (λ n. eqb n x) y (filter f xs), ap bit other, rest) in c)
    by false e rest = ap (λ b. count x (cond b (y ∷ filter f xs) (filter f xs))) e ∙ rest

-- a filter that keeps what is counted
filter_keeps : (x : ℕ) (f : ℕ → Bool) (xs : List ℕ) → f x ≡ true → count x (filter f xs) ≡ count x xs
filter_keeps x f [] h = refl
filter_keeps x f (y ∷ xs) h = by (f y) refl (filter_keeps x f xs h)
  where
    by : (b : Bool) → f y ≡ b → count x (filter f xs) ≡ count x xs → count x (cond (f y) (y ∷ filter f xs) (filter f xs)) ≡ count x (y ∷ xs)
    by true e rest =
        ap (λ b. count x (cond b (y ∷ filter f xs) (filter f xs))) e
        ∙ (let c : count x (y ∷ filter f xs) ≡ count x (y ∷ xs) = omega (arith, count-cons (λ n. eqb n x) y (filter f xs), count-cons (λ n. eqb n x) y xs, rest) in c)
    by false e rest =
        ap (λ b. count x (cond b (y ∷ filter f xs) (filter f xs))) e
        ∙ (let other : eqb y x ≡ false = ne_eqb y x (λ q. true≢false (sym h ∙ ap f (sym q) ∙ e)) in let c : count x (filter f xs) ≡ count x (y ∷ xs) = omega (arith, count-cons (λ n. eqb n x) y xs, ap bit other, rest) in c)

range_none : (a n x : ℕ) → x < a → count x (range_with_len a n) ≡ 0
range_none a zero x lt = refl
range_none a (suc n) x lt =
    let other : eqb a x ≡ false = ne_eqb a x (λ q. omega (arith, q, lt)) in
    omega (arith, count-cons (λ n. eqb n x) a (range_with_len (a + 1) n), ap bit other, range_none (a + 1) n x (omega (arith, lt)))

range_once : (a n x : ℕ) → count x (range_with_len a n) ≤ 1
range_once a zero x = omega arith
range_once a (suc n) x = by (cases_eq a x) (range_once (a + 1) n x)
  where
    by : (a ≡ x) ⊎ (a ≢ x) → count x (range_with_len (a + 1) n) ≤ 1 → count x (range_with_len a (suc n)) ≤ 1
    by (inl same) rest = omega (arith, count-cons (λ n. eqb n x) a (range_with_len (a + 1) n), bit_low (eqb a x), range_none (a + 1) n x (omega (arith, same)))
    by (inr other) rest = omega (arith, count-cons (λ n. eqb n x) a (range_with_len (a + 1) n), ap bit (ne_eqb a x other), rest)

in_count : (x : ℕ) (xs : List ℕ) → In x xs → 1 ≤ count x xs
in_count x [] h = absurd h
in_count x (y ∷ xs) (inl e) = omega (arith, count-cons (λ n. eqb n x) y xs, ap bit (eq-eqb y x e))
in_count x (y ∷ xs) (inr h) = omega (arith, count-cons (λ n. eqb n x) y xs, in_count x xs h)

-- ---- lists that have each number below a bound once

split_count : (n : ℕ) (xs : List ℕ) → length xs ≡ length (filter (λ z. not (eqb z n)) xs) + count n xs
split_count n [] = refl
split_count n (x ∷ xs) = by (eqb x n) refl (split_count n xs)
  where
    by : (b : Bool) → eqb x n ≡ b → length xs ≡ length (filter (λ z. not (eqb z n)) xs) + count n xs → length (x ∷ xs) ≡ length (cond (not (eqb x n)) (x ∷ filter (λ z. not (eqb z n)) xs) (filter (λ z. not (eqb z n)) xs)) + count n (x ∷ xs)
    by true e rest =
        let one : length (cond (not (eqb x n)) (x ∷ filter (λ z. not (eqb z n)) xs) (filter (λ z. not (eqb z n)) xs)) ≡ length (filter (λ z. not (eqb z n)) xs) = ap (λ b. length (cond (not b) (x ∷ filter (λ z. not (eqb z n)) xs) (filter (λ z. not (eqb z n)) xs))) e in
        omega (arith, one, count-cons (λ m. eqb m n) x xs, ap bit e, rest)
    by false e rest =
        let one : length (cond (not (eqb x n)) (x ∷ filter (λ z. not (eqb z n)) xs) (filter (λ z. not (eqb z n)) xs)) ≡ suc (length (filter (λ z. not (eqb z n)) xs)) = ap (λ b. length (cond (not b) (x ∷ filter (λ z. not (eqb z n)) xs) (filter (λ z. not (eqb z n)) xs))) e in
        omega (arith, one, count-cons (λ m. eqb m n) x xs, ap bit e, rest)

others_low : (n : ℕ) (xs : List ℕ) → All (λ x. x < suc n) xs → All (λ x. x < n) (filter (λ z. not (eqb z n)) xs)
others_low n xs low k d lt = by (cases_eq (get_or (filter (λ z. not (eqb z n)) xs) k d) n) (All-filter (λ z. not (eqb z n)) (λ x. x < suc n) xs low k d lt) (filter_passes (λ z. not (eqb z n)) xs k d lt)
  where
    by : (get_or (filter (λ z. not (eqb z n)) xs) k d ≡ n) ⊎ (get_or (filter (λ z. not (eqb z n)) xs) k d ≢ n) → get_or (filter (λ z. not (eqb z n)) xs) k d < suc n
        → not (eqb (get_or (filter (λ z. not (eqb z n)) xs) k d) n) ≡ true → get_or (filter (λ z. not (eqb z n)) xs) k d < n
    by (inl same) below apart = absurd (true≢false (sym apart ∙ ap not (eq-eqb (get_or (filter (λ z. not (eqb z n)) xs) k d) n same)))
    by (inr other) below apart = omega (arith, below, other)

each_once : (n : ℕ) (xs : List ℕ) → All (λ x. x < n) xs → ((i : ℕ) → i < n → count i xs ≡ 1) → length xs ≡ n
each_once zero [] low h = refl
each_once zero (x ∷ xs) low h = absurd (omega (arith, All-head (λ y. y < 0) x xs low))
each_once (suc n) xs low h =
    let others = filter (λ z. not (eqb z n)) xs in
    omega (arith, split_count n xs, h n (omega arith), each_once n others (others_low n xs low) (λ i lt. filter_keeps i (λ z. not (eqb z n)) xs (ap not (ne_eqb i n (λ q. omega (arith, q, lt)))) ∙ h i (omega (arith, lt))))

-- a list that has each number below a bound once at most is no longer than the bound
pub each_few : (n : ℕ) (xs : List ℕ) → All (λ x. x < n) xs → ((i : ℕ) → i < n → count i xs ≤ 1) → length xs ≤ n
each_few zero [] low h = omega arith
each_few zero (x ∷ xs) low h = absurd (omega (arith, All-head (λ y. y < 0) x xs low))
each_few (suc n) xs low h =
    let others = filter (λ z. not (eqb z n)) xs in
    omega (arith, split_count n xs, h n (omega arith), each_few n others (others_low n xs low) (λ i lt. omega (arith, filter_count (λ m. eqb m i) (λ z. not (eqb z n)) xs, h i (omega (arith, lt)))))

-- what lists count that stand behind one another
pub flat_count : (x : ℕ) (f : ℕ → List ℕ) (p : ℕ → Bool) → ((y : ℕ) → count x (f y) ≤ bit (p y)) → (ys : List ℕ) → count x (flat_map f ys) ≤ count_by p ys
flat_count x f p h [] = omega arith
flat_count x f p h (y ∷ ys) = omega (arith, count-append (λ n. eqb n x) (f y) (flat_map f ys), count-cons p y ys, h y, flat_count x f p h ys)

-- ---- walks

-- what a walk counts stands in the list that it begins with, or right below what passes
module _ (below : List (List ℕ)) (x : ℕ) (p : ℕ → Bool) (h : (z : ℕ) → count x (get_or below z []) ≤ bit (p z)) where
  walk_flat : (m : ℕ) → ((y : ℕ) → count x (walk_from below m y) ≤ bit (eqb y x) + count_by p (walk_from below m y)) → (ys : List ℕ)
      → count x (flat_map (walk_from below m) ys) ≤ count x ys + count_by p (flat_map (walk_from below m) ys)
  walk_flat m one [] = omega arith
  walk_flat m one (y ∷ ys) =
      omega (arith, count-append (λ n. eqb n x) (walk_from below m y) (flat_map (walk_from below m) ys), count-append p (walk_from below m y) (flat_map (walk_from below m) ys), count-cons (λ n. eqb n x) y ys, one y, walk_flat m one ys)

  walk_one_count : (m y : ℕ) → count x (walk_from below m y) ≤ bit (eqb y x) + count_by p (walk_from below m y)
  walk_one_count zero y = omega arith
  walk_one_count (suc m) y =
      let later = flat_map (walk_from below m) (get_or below y []) in
      omega (arith, count-cons (λ n. eqb n x) y later, count-cons p y later, walk_flat m (walk_one_count m) (get_or below y []), h y)

  walk_count : (m : ℕ) (ys : List ℕ) → count x (flat_map (walk_from below m) ys) ≤ count x ys + count_by p (flat_map (walk_from below m) ys)
  walk_count m ys = walk_flat m (walk_one_count m) ys

module _ (below : List (List ℕ)) (n : ℕ) (low : AreBelow n below) where
  below_at : (y : ℕ) → All (λ k. k < n) (get_or below y [])
  below_at y = by (cases_lt y (length below))
    where
      by : (y < length below) ⊎ (length below ≤ y) → All (λ k. k < n) (get_or below y [])
      by (inl lt) = low y [] lt
      by (inr ge) = subst (All (λ k. k < n)) (sym (get_or_past below y [] ge)) (All-nil (λ k. k < n))

  flat_low : (f : ℕ → List ℕ) → ((y : ℕ) → y < n → All (λ k. k < n) (f y)) → (ys : List ℕ) → All (λ k. k < n) ys → All (λ k. k < n) (flat_map f ys)
  flat_low f one [] h = All-nil (λ k. k < n)
  flat_low f one (y ∷ ys) h = All-append (λ k. k < n) (f y) (flat_map f ys) (one y (All-head (λ k. k < n) y ys h)) (flat_low f one ys (All-tail (λ k. k < n) y ys h))

  walk_low : (m y : ℕ) → y < n → All (λ k. k < n) (walk_from below m y)
  walk_low zero y lt = All-nil (λ k. k < n)
  walk_low (suc m) y lt = All-cons (λ k. k < n) y (flat_map (walk_from below m) (get_or below y [])) lt (flat_low (walk_from below m) (walk_low m) (get_or below y []) (below_at y))

-- ---- the order of contexts

module _ (contexts : List Frame) (order : List ℕ) (below : List (List ℕ)) (h : AreOrdered contexts order below) where
  titled_once : (x : ℕ) → count x h.titled ≤ 1
  titled_once x = omega (arith, sum_by-IsPermutation (λ y. bit (eqb y x)) (range_with_len 0 (length (map title_of contexts))) h.titled h.rise.all, range_once 0 (length (map title_of contexts)) x)

  below_once : (x z : ℕ) → count x (get_or (below_all (all_above contexts) h.titled) z []) ≤ bit (is_number z (get_or (all_above contexts) x None))
  below_once x z = by (cases_lt z (length (all_above contexts))) (is_number z (get_or (all_above contexts) x None)) refl
    where
      f : ℕ → Bool
      f j = is_number z (get_or (all_above contexts) j None)

      by : (z < length (all_above contexts)) ⊎ (length (all_above contexts) ≤ z) → (b : Bool) → is_number z (get_or (all_above contexts) x None) ≡ b → count x (get_or (below_all (all_above contexts) h.titled) z []) ≤ bit (is_number z (get_or (all_above contexts) x None))
      by (inr ge) b e = omega (arith, ap (count x) (get_or_past (below_all (all_above contexts) h.titled) z [] (omega (arith, ge, groups_length (all_above contexts) h.titled))))
      by (inl lt) true e = omega (arith, ap (count x) (group_at (all_above contexts) h.titled z [] lt), filter_count (λ n. eqb n x) (λ j. is_number z (get_or (all_above contexts) j None)) h.titled, titled_once x, ap bit e)
      by (inl lt) false e = omega (arith, ap (count x) (group_at (all_above contexts) h.titled z [] lt), filter_drops x (λ j. is_number z (get_or (all_above contexts) j None)) h.titled e)

  abbrev whole : List ℕ
  whole = flat_map (walk_from (below_all (all_above contexts) h.titled) (length (below_all (all_above contexts) h.titled))) (first_of (all_above contexts) h.titled)

  step : (x : ℕ) → count x whole ≤ count x (first_of (all_above contexts) h.titled) + count_by (λ z. is_number z (get_or (all_above contexts) x None)) whole
  step x = walk_count (below_all (all_above contexts) h.titled) x (λ z. is_number z (get_or (all_above contexts) x None)) (below_once x) (length (below_all (all_above contexts) h.titled)) (first_of (all_above contexts) h.titled)

  same_number : (a : ℕ) (xs : List ℕ) → count_by (λ z. is_number z (Some a)) xs ≡ count a xs
  same_number a [] = refl
  same_number a (x ∷ xs) = omega (arith, count-cons (λ z. is_number z (Some a)) x xs, count-cons (λ n. eqb n a) x xs, same_number a xs, ap bit (flips (cases_eq a x)))
    where
      flips : (a ≡ x) ⊎ (a ≢ x) → eqb a x ≡ eqb x a
      flips (inl e) = eq-eqb a x e ∙ sym (eq-eqb x a (sym e))
      flips (inr o) = ne_eqb a x o ∙ sym (ne_eqb x a (λ q. o (sym q)))

  module _ (before : HaveAbove contexts) where
    once_to : (k x : ℕ) → x < k → x < length contexts → count x whole ≤ 1
    once_to zero x lt low = absurd (omega (arith, lt))
    once_to (suc k) x lt low = by (get_or (all_above contexts) x None) refl (λ a small. once_to k a (omega (arith, small, lt)) (omega (arith, small, low)))
      where
        by : (o : Option ℕ) → get_or (all_above contexts) x None ≡ o → ((a : ℕ) → a < x → count a whole ≤ 1) → count x whole ≤ 1
        by None e rest =
            omega (arith, step x, filter_count (λ n. eqb n x) (λ i. is_none (slice_index_or (all_above contexts) i None)) h.titled, titled_once x, ap (λ (o : Option ℕ). count_by (λ z. is_number z o) whole) e, count_none (λ z. is_number z None) whole (λ z. refl))
        by (Some a) e rest =
            omega (arith, step x, filter_drops x (λ i. is_none (slice_index_or (all_above contexts) i None)) h.titled (ap is_none e), ap (λ (o : Option ℕ). count_by (λ z. is_number z o) whole) e, same_number a whole, rest a (above_less contexts order below h before x a e low))

    pub order_once : (x : ℕ) → x < length contexts → count x order ≡ 1
    order_once x lt = omega (arith, ap (count x) h.walk, once_to (suc x) x (omega arith) lt, in_count x order (order_has contexts order below h before x lt))

    pub order_low : All (λ x. x < length contexts) order
    order_low = subst (All (λ x. x < length contexts)) (sym h.walk) (flat_low (below_all (all_above contexts) h.titled) (length contexts) (subst (AreBelow (length contexts)) h.lists (below_low contexts order below h))
        (walk_from (below_all (all_above contexts) h.titled) (length (below_all (all_above contexts) h.titled))) (walk_low (below_all (all_above contexts) h.titled) (length contexts) (subst (AreBelow (length contexts)) h.lists (below_low contexts order below h)) (length (below_all (all_above contexts) h.titled)))
        (first_of (all_above contexts) h.titled) (All-filter (λ i. is_none (slice_index_or (all_above contexts) i None)) (λ x. x < length contexts) h.titled (titled_within contexts order below h)))

    pub order_size : length order ≡ length contexts
    order_size = each_once (length contexts) order order_low order_once

    -- what is forked below the contexts in order
    abbrev under : List Bool → List ℕ
    under forked = flat_map (λ y. filter (λ z. get_or forked z false) (get_or below y [])) order

    under_once : (forked : List Bool) (x : ℕ) → count x (under forked) ≤ count_by (λ z. is_number z (get_or (all_above contexts) x None)) order
    under_once forked x = flat_count x (λ y. filter (λ z. get_or forked z false) (get_or below y [])) (λ z. is_number z (get_or (all_above contexts) x None))
        (λ y. omega (arith, filter_count (λ n. eqb n x) (λ z. get_or forked z false) (get_or below y []), ap (λ (ls : List (List ℕ)). count x (get_or ls y [])) h.lists, below_once x y)) order

    under_low : (forked : List Bool) → All (λ x. x < length contexts) (under forked)
    under_low forked = flat_low below (length contexts) (below_low contexts order below h) (λ y. filter (λ z. get_or forked z false) (get_or below y []))
        (λ y lt. All-filter (λ z. get_or forked z false) (λ x. x < length contexts) (get_or below y []) (below_at below (length contexts) (below_low contexts order below h) y)) order order_low

    count_above : (x : ℕ) → x < length contexts → count_by (λ z. is_number z (get_or (all_above contexts) x None)) order ≤ 1
    count_above x low = by (get_or (all_above contexts) x None) refl
      where
        by : (o : Option ℕ) → get_or (all_above contexts) x None ≡ o → count_by (λ z. is_number z (get_or (all_above contexts) x None)) order ≤ 1
        by None e = omega (arith, ap (λ (o : Option ℕ). count_by (λ z. is_number z o) order) e, count_none (λ z. is_number z None) order (λ z. refl))
        by (Some a) e = omega (arith, ap (λ (o : Option ℕ). count_by (λ z. is_number z o) order) e, same_number a order, order_once a (omega (arith, above_less contexts order below h before x a e low, low)))

    count_first : 0 < length contexts → count_by (λ z. is_number z (get_or (all_above contexts) 0 None)) order ≡ 0
    count_first low = by (get_or (all_above contexts) 0 None) refl
      where
        by : (o : Option ℕ) → get_or (all_above contexts) 0 None ≡ o → count_by (λ z. is_number z (get_or (all_above contexts) 0 None)) order ≡ 0
        by None e = ap (λ (o : Option ℕ). count_by (λ z. is_number z o) order) e ∙ count_none (λ z. is_number z None) order (λ z. refl)
        by (Some a) e = absurd (omega (arith, above_less contexts order below h before 0 a e low))

    -- fewer contexts are forked below another one than there are contexts
    pub under_few : (forked : List Bool) → 0 < length contexts → length (under forked) + 1 ≤ length contexts
    under_few forked some =
        omega (arith, each_few (length contexts) (0 ∷ under forked) (All-cons (λ x. x < length contexts) 0 (under forked) some (under_low forked)) (λ i lt. each i lt (cases_eq 0 i)))
      where
        each : (i : ℕ) → i < length contexts → (0 ≡ i) ⊎ (0 ≢ i) → count i (0 ∷ under forked) ≤ 1
        each i lt (inl same) = omega (arith, count-cons (λ n. eqb n i) 0 (under forked), bit_low (eqb 0 i), ap (λ j. count j (under forked)) same, under_once forked 0, count_first some)
        each i lt (inr other) = omega (arith, count-cons (λ n. eqb n i) 0 (under forked), ap bit (ne_eqb 0 i other), under_once forked i, count_above i lt)
