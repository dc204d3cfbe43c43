-- Latencies with their indices, and how many of them come after one.
use Rattle.std.proofs.Common.{◌≡◌, ℕ, suc, ◌+◌, ◌-◌, ◌<◌, ◌≤◌, Bool, true, false, cond, eqb, ltb, ◌&&◌, ◌||◌, List, [], ◌∷◌, ◌++◌, map, length, get_or, take, drop, All, Ordering, Some, arith, refl, sym, ap, ◌∙◌}
use Rattle.std.specs.Cmp.{IsStrictWeakOrder}
use Rattle.std.specs.Prelude.{count_by, not}
use Rattle.std.specs.List.{enumerate_from}
use Rattle.std.specs.List.Sorted.{IsPermutation, IsSorted, IsSortedBy}
use Rattle.std.specs.Ordering.{is_le, is_lt, is_some_and, nat_cmp, ordering_then, partial_ordering_then}
use Rattle.std.specs.declared.cmp.Ordering.TheVariants.{Less, Equal, Greater}
use Rattle.std.proofs.lemmas.Bool.{false≢true, not-true}
use Rattle.std.proofs.lemmas.Bool.Decides.{nat_tests}
use Rattle.std.proofs.lemmas.List.{get_or_default, get_or-drop, get_or-take, length-drop, length-map, length-take, take-append-drop}
use Rattle.std.proofs.lemmas.List.FromFn.{length-enumerate_from}
use Rattle.std.proofs.lemmas.List.Elements.{All-head, All-tail}
use Rattle.std.proofs.lemmas.List.Sorted.{sorted_far, sum_by-IsPermutation}
use Rattle.std.proofs.lemmas.List.Sums.{sum_by-append, sum_by-cons}
use Rattle.trace_rules.specs.SlowTraces.{comes_after, with_indices}

abbrev pub Place : Type 0
Place = ℕ × ℕ

-- the order of pairs is that of latency and index
pub less_is : (x y : Place) → is_lt (ordering_then (nat_cmp x.0 y.0) (nat_cmp x.1 y.1)) ≡ comes_after x y
less_is x y = go (ltb x.0 y.0) (eqb x.0 y.0) (ltb x.1 y.1) (eqb x.1 y.1)
  where
    go : (l e m f : Bool) → is_lt (ordering_then (cond l Less (cond e Equal Greater)) (cond m Less (cond f Equal Greater))) ≡ (l || (e && m))
    go true e m f = refl
    go false true true f = refl
    go false true false true = refl
    go false true false false = refl
    go false false m f = refl

-- `<=` of pairs is by the same order
partial_is : (o m : Ordering) → is_some_and is_le (partial_ordering_then (Some o) (Some m)) ≡ is_le (ordering_then o m)
partial_is Less m = refl
partial_is Equal m = refl
partial_is Greater m = refl

at_most : (x y : Place) → is_le (ordering_then (nat_cmp x.0 y.0) (nat_cmp x.1 y.1)) ≡ not (comes_after y x)
at_most x y = over x.0 x.1 y.0 y.1
  where
    over : (a b c d : ℕ) → is_le (ordering_then (nat_cmp a c) (nat_cmp b d)) ≡ not (ltb c a || (eqb c a && ltb d b))
    over a b c d = grind (arith, nat_tests)

pub at_most_is : (x y : Place) → is_some_and is_le (partial_ordering_then (Some (nat_cmp x.0 y.0)) (Some (nat_cmp x.1 y.1))) ≡ not (comes_after y x)
at_most_is x y = partial_is (nat_cmp x.0 y.0) (nat_cmp x.1 y.1) ∙ at_most x y

order : IsStrictWeakOrder comes_after
order = record {
  one_way = λ x y. one x.0 x.1 y.0 y.1;
  chain = λ x y z. chain x.0 x.1 y.0 y.1 z.0 z.1;
}
  where
    one : (a b c d : ℕ) → (ltb a c || (eqb a c && ltb b d)) ≡ true → (ltb c a || (eqb c a && ltb d b)) ≡ false
    one a b c d h = grind (arith, nat_tests)

    chain : (a b c d e f : ℕ) → (ltb a c || (eqb a c && ltb b d)) ≡ false → (ltb c e || (eqb c e && ltb d f)) ≡ false → (ltb a e || (eqb a e && ltb b f)) ≡ false
    chain a b c d e f h k = grind (arith, nat_tests)

-- what comes after x comes after each that is no later than it
still_after : (x y z : Place) → comes_after x y ≡ true → comes_after z y ≡ false → comes_after x z ≡ true
still_after x y z = over x.0 x.1 y.0 y.1 z.0 z.1
  where
    over : (a b c d e f : ℕ) → (ltb a c || (eqb a c && ltb b d)) ≡ true → (ltb e c || (eqb e c && ltb f d)) ≡ false → (ltb a e || (eqb a e && ltb b f)) ≡ true
    over a b c d e f h k = grind (arith, nat_tests)

abbrev turn : ℕ × ℕ → Place
turn x = (x.1, x.0)

-- the latencies with their indices, one latency after another
pub places_push : (xs : List ℕ) (x : ℕ) → with_indices (xs ++ x ∷ []) ≡ with_indices xs ++ (x, length xs) ∷ []
places_push xs x = go 0 xs ∙ ap (λ (k : ℕ). map turn (enumerate_from 0 xs) ++ (x, k) ∷ []) (let e : 0 + length xs ≡ length xs = omega arith in e)
  where
    go : (n : ℕ) (ys : List ℕ) → map turn (enumerate_from n (ys ++ x ∷ [])) ≡ map turn (enumerate_from n ys) ++ (x, n + length ys) ∷ []
    go n [] = ap (λ (k : ℕ). (x, k) ∷ []) (let e : n ≡ n + 0 = omega arith in e)
    go n (y ∷ ys) = ap (λ (l : List Place). (y, n) ∷ l) (go (n + 1) ys ∙ ap (λ (k : ℕ). map turn (enumerate_from (n + 1) ys) ++ (x, k) ∷ []) (let e : (n + 1) + length ys ≡ n + suc (length ys) = omega arith in e))

pub length_places : (xs : List ℕ) → length (with_indices xs) ≡ length xs
length_places xs = length-map (enumerate_from 0 xs) turn ∙ length-enumerate_from 0 xs

-- what a sort of pairs gives is sorted by latency and index
pub places_sorted : (xs : List Place) → IsSorted (λ (x y : Place). ordering_then (nat_cmp x.0 y.0) (nat_cmp x.1 y.1)) xs → IsSortedBy comes_after xs
places_sorted xs up = λ k d low lt. sym (less_is (get_or xs (k + 1) d) (get_or xs k d)) ∙ up k d low lt

-- as many come after x in one order as in another
pub later_same : (x : Place) (xs ys : List Place) → IsPermutation xs ys → count_by (comes_after x) ys ≡ count_by (comes_after x) xs
later_same x xs ys moved = sum_by-IsPermutation (λ y. cond (comes_after x y) 1 0) xs ys moved

-- where all pass, the count is the length; where none does, it is 0
count_all : (p : Place → Bool) (xs : List Place) → All (λ x. p x ≡ true) xs → count_by p xs ≡ length xs
count_all p [] all = refl
count_all p (x ∷ xs) all =
    let one = All-head (λ y. p y ≡ true) x xs all in
    let rest = count_all p xs (All-tail (λ y. p y ≡ true) x xs all) in
    let last : 1 + count_by p xs ≡ length (x ∷ xs) = omega arith in
    sum_by-cons (λ y. cond (p y) 1 0) x xs ∙ (ap (λ (b : Bool). cond b 1 0 + count_by p xs) one ∙ last)

count_none : (p : Place → Bool) (xs : List Place) → All (λ x. p x ≡ false) xs → count_by p xs ≡ 0
count_none p [] all = refl
count_none p (x ∷ xs) all =
    let one = All-head (λ y. p y ≡ false) x xs all in
    let rest = count_none p xs (All-tail (λ y. p y ≡ false) x xs all) in
    let last : 0 + count_by p xs ≡ 0 = omega arith in
    sum_by-cons (λ y. cond (p y) 1 0) x xs ∙ (ap (λ (b : Bool). cond b 1 0 + count_by p xs) one ∙ last)

-- none before `low` comes after x, and each from `high` on does
pub record IsBetween (xs : List Place) (x : Place) (low high : ℕ) : Type 0 where
  pub order : low ≤ high
  pub within : high ≤ length xs
  pub before : (k : ℕ) (d : Place) → k < low → comes_after x (get_or xs k d) ≡ false
  pub after : (k : ℕ) (d : Place) → high ≤ k → k < length xs → comes_after x (get_or xs k d) ≡ true

pub IsBetween-all : (xs : List Place) (x : Place) → IsBetween xs x 0 (length xs)
IsBetween-all xs x = record {
  order = omega arith;
  within = omega arith;
  before = λ k d lt. absurd (omega arith);
  after = λ k d le lt. absurd (omega arith);
}

module _ (xs : List Place) (x y : Place) (low high middle : ℕ) (up : IsSortedBy comes_after xs) (so : IsBetween xs x low high) (from : low ≤ middle) (below : middle < high) (is : y ≡ get_or xs middle y) where
  read : (d : Place) → y ≡ get_or xs middle d
  read d = let within = so.within in is ∙ get_or_default xs middle y d (omega arith)

  pub IsBetween-right : not (comes_after x y) ≡ true → IsBetween xs x (middle + 1) high
  IsBetween-right early = record {
    order = omega arith;
    within = so.within;
    before = λ k d lt.
        let within = so.within in
        let far : comes_after (get_or xs middle d) (get_or xs k d) ≡ false = sorted_far comes_after order xs up k middle d (omega arith) (omega arith) in
        order.chain x y (get_or xs k d) (not-true (comes_after x y) early) (ap (λ (z : Place). comes_after z (get_or xs k d)) (read d) ∙ far);
    after = so.after;
  }

  pub IsBetween-left : not (comes_after x y) ≡ false → IsBetween xs x low middle
  IsBetween-left late = record {
    order = from;
    within = let within = so.within in omega arith;
    before = so.before;
    after = λ k d le lt.
        let far : comes_after (get_or xs k d) (get_or xs middle d) ≡ false = sorted_far comes_after order xs up middle k d le lt in
        still_after x y (get_or xs k d) (not_false (comes_after x y) late) (ap (λ (z : Place). comes_after (get_or xs k d) z) (read d) ∙ far);
  }
    where
      not_false : (b : Bool) → not b ≡ false → b ≡ true
      not_false true h = refl
      not_false false h = absurd (false≢true (sym h))

-- once nothing is between them, all from there on come after x, and no others
pub later_is : (xs : List Place) (x : Place) (low high : ℕ) → high ≤ low → IsBetween xs x low high → length xs - low ≡ count_by (comes_after x) xs
later_is xs x low high done so =
    let p : Place → Bool = comes_after x in
    let order = so.order in
    let within = so.within in
    let first = length-take low xs in
    let last = length-drop low xs in
    let none : count_by p (take low xs) ≡ 0 = count_none p (take low xs) (λ k d lt. ap p (get_or-take low xs k d (omega arith)) ∙ so.before k d (omega arith)) in
    let all : count_by p (drop low xs) ≡ length (drop low xs) = count_all p (drop low xs) (λ k d lt. ap p (get_or-drop low xs k d) ∙ so.after (low + k) d (omega arith) (omega arith)) in
    let whole : count_by p xs ≡ count_by p (take low xs) + count_by p (drop low xs) = ap (count_by p) (sym (take-append-drop low xs)) ∙ sum_by-append (λ y. cond (p y) 1 0) (take low xs) (drop low xs) in
    omega arith
