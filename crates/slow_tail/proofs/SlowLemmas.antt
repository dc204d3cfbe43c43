-- Which traces are slow, by the first slow one in the order of latency and index.
use Rattle.std.proofs.Common.{◌≡◌, ℕ, zero, suc, ◌+◌, ◌<◌, ◌≤◌, Bool, true, false, cond, eqb, ltb, ◌&&◌, ◌||◌, List, [], ◌∷◌, ◌++◌, map, length, get_or, All, Contains, Ordering, Some, arith, refl, sym, ap, ◌∙◌, subst}
use Rattle.std.specs.Prelude.{count_by, filter, not}
use Rattle.std.specs.List.{enumerate_from, zip}
use Rattle.std.specs.List.Sorted.{IsPermutation, IsSplitAround}
use Rattle.std.specs.Ordering.{is_le, is_lt, is_some_and, nat_cmp, ordering_then, partial_ordering_then}
use Rattle.std.specs.declared.cmp.Ordering.TheVariants.{Less, Equal, Greater}
use Rattle.std.proofs.lemmas.Bool.{eq-eqb, eqb-true, lt-ltb, le-ltb, not-true}
use Rattle.std.proofs.lemmas.Bool.Decides.{nat_tests}
use Rattle.std.proofs.lemmas.List.{length-append, length-map}
use Rattle.std.proofs.lemmas.List.FromFn.{length-enumerate_from}
use Rattle.std.proofs.lemmas.List.Elements.{All-map, All-weaker, Contains-append_right, filter_passes}
use Rattle.std.proofs.lemmas.List.Sorted.{Contains-permutation, IsPermutation-sym, length_permutation, sum_by-IsPermutation}
use Rattle.trace_rules.specs.SlowTraces.{IsFloor, IsLeast, comes_after, is_slow, marked, slow_count, slow_marks, slow_of, with_indices}
use Rattle.trace_types.proofs.ElementLemmas.{map_same}
use Rattle.slow_tail.proofs.CountLemmas.{count_all, count_cons, count_le, count_map, count_none, count_split, none_counted}

abbrev pub Place : Type 0
Place = ℕ × ℕ

-- the order of pairs is that of latency and index
pub less_is : (x y : Place) → is_lt (ordering_then (nat_cmp x.0 y.0) (nat_cmp x.1 y.1)) ≡ comes_after x y
less_is x y = go (ltb x.0 y.0) (eqb x.0 y.0) (ltb x.1 y.1) (eqb x.1 y.1)
  where
    go : (l e m f : Bool) → is_lt (ordering_then (cond l Less (cond e Equal Greater)) (cond m Less (cond f Equal Greater))) ≡ (l || (e && m))
    go true e m f = refl
    go false true true f = refl
    go false true false true = refl
    go false true false false = refl
    go false false m f = refl

-- `<=` of pairs is by the same order
partial_is : (o m : Ordering) → is_some_and is_le (partial_ordering_then (Some o) (Some m)) ≡ is_le (ordering_then o m)
partial_is Less m = refl
partial_is Equal m = refl
partial_is Greater m = refl

at_most : (x y : Place) → is_le (ordering_then (nat_cmp x.0 y.0) (nat_cmp x.1 y.1)) ≡ not (comes_after y x)
at_most x y = over x.0 x.1 y.0 y.1
  where
    over : (a b c d : ℕ) → is_le (ordering_then (nat_cmp a c) (nat_cmp b d)) ≡ not (ltb c a || (eqb c a && ltb d b))
    over a b c d = grind (arith, nat_tests)

pub at_most_is : (x y : Place) → is_some_and is_le (partial_ordering_then (Some (nat_cmp x.0 y.0)) (Some (nat_cmp x.1 y.1))) ≡ not (comes_after y x)
at_most_is x y = partial_is (nat_cmp x.0 y.0) (nat_cmp x.1 y.1) ∙ at_most x y

-- what comes after an element that is not before p comes after p
after_later : (p x y : Place) → comes_after x p ≡ false → comes_after x y ≡ true → comes_after p y ≡ true
after_later p x y = over p.0 p.1 x.0 x.1 y.0 y.1
  where
    over : (a b c d e f : ℕ) → (ltb c a || (eqb c a && ltb d b)) ≡ false → (ltb c e || (eqb c e && ltb d f)) ≡ true → (ltb a e || (eqb a e && ltb b f)) ≡ true
    over a b c d e f from after = grind (arith, nat_tests)

-- what is not before p comes after an element that is
after_earlier : (p x y : Place) → comes_after x p ≡ true → comes_after y p ≡ false → comes_after x y ≡ true
after_earlier p x y = over p.0 p.1 x.0 x.1 y.0 y.1
  where
    over : (a b c d e f : ℕ) → (ltb c a || (eqb c a && ltb d b)) ≡ true → (ltb e a || (eqb e a && ltb f b)) ≡ false → (ltb c e || (eqb c e && ltb d f)) ≡ true
    over a b c d e f before from = grind (arith, nat_tests)

-- of two with different indices one comes after the other
after_either : (x y : Place) → comes_after x y ≡ false → eqb x.1 y.1 ≡ false → comes_after y x ≡ true
after_either x y = over x.0 x.1 y.0 y.1
  where
    over : (a b c d : ℕ) → (ltb a c || (eqb a c && ltb b d)) ≡ false → eqb b d ≡ false → (ltb c a || (eqb c a && ltb d b)) ≡ true
    over a b c d not_after differ = grind (arith, nat_tests)

after_itself : (x : Place) → comes_after x x ≡ false
after_itself x = over x.0 x.1
  where
    over : (a b : ℕ) → (ltb a a || (eqb a a && ltb b b)) ≡ false
    over a b = grind (arith, nat_tests)

-- what is not before p has no lesser latency
from_is_no_less : (p x : Place) → comes_after x p ≡ false → p.0 ≤ x.0
from_is_no_less p x = over p.0 p.1 x.0 x.1
  where
    over : (a b c d : ℕ) → (ltb c a || (eqb c a && ltb d b)) ≡ false → a ≤ c
    over a b c d from = grind (arith, nat_tests)

abbrev turn : ℕ × ℕ → Place
turn x = (x.1, x.0)

-- the latencies with their indices, one latency after another
pub places_push : (xs : List ℕ) (x : ℕ) → with_indices (xs ++ x ∷ []) ≡ with_indices xs ++ (x, length xs) ∷ []
places_push xs x = go 0 xs ∙ ap (λ (k : ℕ). map turn (enumerate_from 0 xs) ++ (x, k) ∷ []) (let e : 0 + length xs ≡ length xs = omega arith in e)
  where
    go : (n : ℕ) (ys : List ℕ) → map turn (enumerate_from n (ys ++ x ∷ [])) ≡ map turn (enumerate_from n ys) ++ (x, n + length ys) ∷ []
    go n [] = ap (λ (k : ℕ). (x, k) ∷ []) (let e : n ≡ n + 0 = omega arith in e)
    go n (y ∷ ys) = ap (λ (l : List Place). (y, n) ∷ l) (go (n + 1) ys ∙ ap (λ (k : ℕ). map turn (enumerate_from (n + 1) ys) ++ (x, k) ∷ []) (let e : (n + 1) + length ys ≡ n + suc (length ys) = omega arith in e))

pub length_places : (xs : List ℕ) → length (with_indices xs) ≡ length xs
length_places xs = length-map (enumerate_from 0 xs) turn ∙ length-enumerate_from 0 xs

-- their latencies
latencies_shown : (xs : List ℕ) → map (λ (x : Place). x.0) (with_indices xs) ≡ xs
latencies_shown xs = go 0 xs
  where
    go : (n : ℕ) (ys : List ℕ) → map (λ (x : Place). x.0) (map turn (enumerate_from n ys)) ≡ ys
    go n [] = refl
    go n (y ∷ ys) = ap (λ (l : List ℕ). y ∷ l) (go (n + 1) ys)

-- an index stands once
abbrev has_index : ℕ → Place → Bool
has_index k x = eqb x.1 k

index_once : (k : ℕ) (xs : List ℕ) → count_by (has_index k) (with_indices xs) ≤ 1
index_once k xs = (go 0 xs).1
  where
    go : (n : ℕ) (ys : List ℕ) → (k < n → count_by (has_index k) (map turn (enumerate_from n ys)) ≡ 0) × (count_by (has_index k) (map turn (enumerate_from n ys)) ≤ 1)
    go n [] = ((λ past. refl), omega arith)
    go n (y ∷ ys) = at (go (n + 1) ys) (eqb n k) refl
      where
        at : ((k < n + 1 → count_by (has_index k) (map turn (enumerate_from (n + 1) ys)) ≡ 0) × (count_by (has_index k) (map turn (enumerate_from (n + 1) ys)) ≤ 1)) → (b : Bool) → eqb n k ≡ b → (k < n → count_by (has_index k) ((y, n) ∷ map turn (enumerate_from (n + 1) ys)) ≡ 0) × (count_by (has_index k) ((y, n) ∷ map turn (enumerate_from (n + 1) ys)) ≤ 1)
        at told true e =
            let same : n ≡ k = eqb-true n k e in
            let none = told.0 (omega arith) in
            let many = count_cons (has_index k) (y, n) (map turn (enumerate_from (n + 1) ys)) ∙ ap (λ (t : Bool). cond t 1 0 + count_by (has_index k) (map turn (enumerate_from (n + 1) ys))) e in
            ((λ past. absurd (omega arith)), omega arith)
        at told false e =
            let many = count_cons (has_index k) (y, n) (map turn (enumerate_from (n + 1) ys)) ∙ ap (λ (t : Bool). cond t 1 0 + count_by (has_index k) (map turn (enumerate_from (n + 1) ys))) e in
            let most = told.1 in
            ((λ past. let none = told.0 (omega arith) in omega arith), omega arith)

-- the elements that are not before p
abbrev pub not_before : Place → Place → Bool
not_before p x = not (comes_after x p)

-- p is the first slow one: as many come after it as there are slow ones but one
pub record IsFirst (latencies : List ℕ) (p : Place) : Type 0 where
  pub member : Contains (with_indices latencies) p
  pub after : count_by (comes_after p) (with_indices latencies) + 1 ≡ slow_count (length latencies)
  pub from : count_by (not_before p) (with_indices latencies) ≡ slow_count (length latencies)

-- the element around which a list of all is split is the first slow one
pub first_from_split : (latencies : List ℕ) (low high : List Place) (p : Place) (middle : ℕ) → middle + slow_count (length latencies) ≡ length latencies → IsPermutation (with_indices latencies) (low ++ p ∷ high) → length low ≡ middle
    → IsSplitAround (λ x y. ordering_then (nat_cmp x.0 y.0) (nat_cmp x.1 y.1)) low p high → IsFirst latencies p
first_from_split latencies low high p middle at moved size split = record {
  member = Contains-permutation (low ++ p ∷ high) all p (IsPermutation-sym all (low ++ p ∷ high) moved) (Contains-append_right low (p ∷ high) p (0, omega arith, refl));
  after =
      let whole = counted (comes_after p) false (after_itself p) in
      let below = count_none (comes_after p) low not_after in
      let size_all = many in
      let above = count_all (comes_after p) high (λ k d lt. after_either (get_or high k d) p (not_less k d lt) (others_high k d lt)) in
      omega arith;
  from =
      let whole = counted (not_before p) true (ap not (after_itself p)) in
      let below = count_none (not_before p) low (λ k d lt. ap not (after_either p (get_or low k d) (not_after k d lt) (turned (get_or low k d).1 p.1 (others_low k d lt)))) in
      let size_all = many in
      let above = count_all (not_before p) high (λ k d lt. ap not (not_less k d lt)) in
      omega arith;
}
  where
    all : List Place
    all = with_indices latencies

    counted : (q : Place → Bool) (b : Bool) → q p ≡ b → count_by q (with_indices latencies) ≡ count_by q low + (cond b 1 0 + count_by q high)
    counted q b is = sym (sum_by-IsPermutation (λ x. cond (q x) 1 0) (with_indices latencies) (low ++ p ∷ high) moved) ∙ count_split q b low p high is

    many : length low + suc (length high) ≡ length latencies
    many = sym (length-append low (p ∷ high)) ∙ (length_permutation (with_indices latencies) (low ++ p ∷ high) moved ∙ length_places latencies)

    not_after : All (λ x. comes_after p x ≡ false) low
    not_after k d lt = sym (less_is p (get_or low k d)) ∙ split.0 k d lt

    not_less : All (λ x. comes_after x p ≡ false) high
    not_less k d lt = sym (less_is (get_or high k d) p) ∙ split.1 k d lt

    alone : count_by (has_index p.1) low + (1 + count_by (has_index p.1) high) ≤ 1
    alone =
        let whole = counted (has_index p.1) true (eq-eqb p.1 p.1 refl) in
        let most = index_once p.1 latencies in
        omega arith

    others_low : All (λ x. has_index p.1 x ≡ false) low
    others_low = none_counted (has_index p.1) low (let a = alone in omega arith)

    others_high : All (λ x. has_index p.1 x ≡ false) high
    others_high = none_counted (has_index p.1) high (let a = alone in omega arith)

    turned : (a b : ℕ) → eqb a b ≡ false → eqb b a ≡ false
    turned a b e = grind (arith, nat_tests)

-- so the slow ones are those that are not before it
slow_from_first : (latencies : List ℕ) (p : Place) → IsFirst latencies p → (x : Place) → not_before p x ≡ is_slow latencies x
slow_from_first latencies p first x = go (comes_after x p) refl
  where
    go : (b : Bool) → comes_after x p ≡ b → not_before p x ≡ is_slow latencies x
    go true e =
        let fewer = count_le (not_before p) (comes_after x) (λ y h. after_earlier p x y e (not-true (comes_after y p) h)) (with_indices latencies) in
        let from = first.from in
        ap not e ∙ sym (le-ltb (count_by (comes_after x) (with_indices latencies)) (slow_count (length latencies)) (omega arith))
    go false e =
        let fewer = count_le (comes_after x) (comes_after p) (λ y h. after_later p x y e h) (with_indices latencies) in
        let after = first.after in
        ap not e ∙ sym (lt-ltb (count_by (comes_after x) (with_indices latencies)) (slow_count (length latencies)) (omega arith))

pub marks_from_first : (latencies : List ℕ) (p : Place) → IsFirst latencies p → map (not_before p) (with_indices latencies) ≡ slow_marks latencies
marks_from_first latencies p first = map_same (not_before p) (is_slow latencies) (slow_from_first latencies p first) (with_indices latencies)

-- and exactly so many are slow
pub count_from_first : (latencies : List ℕ) (p : Place) → IsFirst latencies p → count_by (λ (m : Bool). m) (slow_marks latencies) ≡ slow_count (length latencies)
count_from_first latencies p first =
    ap (count_by (λ (m : Bool). m)) (sym (marks_from_first latencies p first)) ∙ (count_map (λ (m : Bool). m) (not_before p) (with_indices latencies) ∙ first.from)

-- the elements that are marked by a test
marked_by : {X Y : Type 0} (f : X → Bool) (g : X → Y) (xs : List X) → marked (map f xs) (map g xs) ≡ map g (filter f xs)
marked_by f g [] = refl
marked_by {X} {Y} f g (x ∷ xs) = go (marked_by f g xs) (f x)
  where
    go : marked (map f xs) (map g xs) ≡ map g (filter f xs) → (b : Bool)
        → map (λ (z : Bool × Y). z.1) (cond b ((f x, g x) ∷ filter (λ (z : Bool × Y). z.0) (zip (map f xs) (map g xs))) (filter (λ (z : Bool × Y). z.0) (zip (map f xs) (map g xs))))
        ≡ map g (cond b (x ∷ filter f xs) (filter f xs))
    go rest true = ap (λ l. g x ∷ l) rest
    go rest false = rest

-- the least latency of the slow ones is that of the first
pub floor_from_first : (latencies : List ℕ) (p : Place) → IsFirst latencies p → IsFloor (slow_of latencies latencies) p.0
floor_from_first latencies p first = subst (λ (l : List ℕ). IsFloor l p.0) (sym shown) (floor (map (λ (x : Place). x.0) (filter (not_before p) (with_indices latencies))) p.0 record {
  member = kept (with_indices latencies) first.member;
  none_less = All-map (λ n. p.0 ≤ n) (λ (x : Place). x.0) (filter (not_before p) (with_indices latencies))
      (All-weaker (λ (x : Place). not_before p x ≡ true) (λ (x : Place). p.0 ≤ x.0) (λ x h. from_is_no_less p x (not-true (comes_after x p) h)) (filter (not_before p) (with_indices latencies)) (filter_passes (not_before p) (with_indices latencies)));
})
  where
    shown : slow_of latencies latencies ≡ map (λ (x : Place). x.0) (filter (not_before p) (with_indices latencies))
    shown = ap (λ (m : List Bool). marked m latencies) (sym (marks_from_first latencies p first))
        ∙ (ap (λ (l : List ℕ). marked (map (not_before p) (with_indices latencies)) l) (sym (latencies_shown latencies))
        ∙ marked_by (not_before p) (λ (x : Place). x.0) (with_indices latencies))

    floor : (xs : List ℕ) (m : ℕ) → IsLeast xs m → IsFloor xs m
    floor [] m least = absurd (empty least.member)
      where
        empty : Contains [] m → ⊥
        empty (k, lt, e) = omega arith
    floor (x ∷ xs) m least = least

    kept : (xs : List Place) → Contains xs p → Contains (map (λ (x : Place). x.0) (filter (not_before p) xs)) p.0
    kept [] (k, lt, e) = absurd (omega arith)
    kept (x ∷ xs) (zero, lt, e) =
        let is : x ≡ p = e in
        subst (λ (y : Place). Contains (map (λ (z : Place). z.0) (filter (not_before p) (y ∷ xs))) p.0) (sym is)
        (subst (λ (b : Bool). Contains (map (λ (z : Place). z.0) (cond b (p ∷ filter (not_before p) xs) (filter (not_before p) xs))) p.0) (sym (ap not (after_itself p))) (0, omega arith, refl))
    kept (x ∷ xs) (suc k, lt, e) = later (kept xs (k, omega arith, e)) (not_before p x)
      where
        later : Contains (map (λ (z : Place). z.0) (filter (not_before p) xs)) p.0 → (b : Bool) → Contains (map (λ (z : Place). z.0) (cond b (x ∷ filter (not_before p) xs) (filter (not_before p) xs))) p.0
        later has true = Contains-append_right (x.0 ∷ []) (map (λ (z : Place). z.0) (filter (not_before p) xs)) p.0 has
        later has false = has

-- no trace is slow only where there is none
pub none_slow : (latencies : List ℕ) → slow_count (length latencies) ≡ 0 → latencies ≡ []
none_slow [] none = refl
none_slow (l ∷ ls) none = absurd (omega arith)
