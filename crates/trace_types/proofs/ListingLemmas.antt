-- What is said of a list tells which one it is, or how long.
use Rattle.std.proofs.Common.{◌≡◌, ◌≢◌, ◌⊎◌, ℕ, zero, suc, ◌<◌, ◌≤◌, ◌↔◌, List, [], ◌∷◌, ◌++◌, length, refl, sym, ap, ◌∙◌, subst, ⊎_elim, inl, inr, arith, Ordering, length-append}
use Rattle.std.specs.declared.cmp.Ordering.TheVariants.{Less, Equal, Greater}
use Rattle.std.specs.List.{Contains, AllPairs}
use Rattle.std.specs.Cmp.{IsTotalOrder}
use Rattle.std.specs.Ordering.{ordering_reverse}
use Rattle.std.proofs.lemmas.Cmp.{nat_list_cmp_total, on_total, then_total}
use Rattle.std.proofs.lemmas.List.Elements.{Contains-append_left, Contains-append_right, Contains-append_cases}
use Rattle.trace_types.specs.Listing.{CountsDistinct}
use Rattle.trace_types.specs.NameOrder.{name_cmp, pair_cmp}
use Rattle.trace_types.specs.Segments.{SegmentName}

pub Contains-nil : {X : Type 0} (x : X) → Contains [] x → ⊥
Contains-nil x c = let lt : c.0 < 0 = c.1 in absurd (omega arith)

pub Contains-cons : {X : Type 0} (x : X) (xs : List X) (y : X) → Contains xs y → Contains (x ∷ xs) y
Contains-cons x xs y c = let lt : c.0 < length xs = c.1 in (suc c.0, omega arith, c.2)

pub cons_cases : {X : Type 0} (x : X) (xs : List X) (z : X) → Contains (x ∷ xs) z → (x ≡ z) ⊎ Contains xs z
cons_cases x xs z (zero, lt, is) = inl is
cons_cases x xs z (suc k, lt, is) = inr (k, omega arith, is)

pub cons_here : {X : Type 0} (x : X) (xs : List X) → Contains (x ∷ xs) x
cons_here x xs = (zero, omega arith, refl)

pub Contains-here : {X : Type 0} (x : X) (xs : List X) (y : X) → x ≡ y → Contains (x ∷ xs) y
Contains-here x xs y e = (zero, omega arith, e)

pub pairs_tail : {X : Type 0} (R : X → X → Type 0) (x : X) (xs : List X) → AllPairs R (x ∷ xs) → AllPairs R xs
pairs_tail R x xs p = λ i j d lt within. p (suc i) (suc j) d (omega arith) (omega arith)

pub head_before : {X : Type 0} (R : X → X → Type 0) (x : X) (xs : List X) (z : X) → AllPairs R (x ∷ xs) → Contains xs z → R x z
head_before R x xs z p (k, lt, is) = subst (R x) is (p zero (suc k) z (omega arith) (omega arith))

-- two lists in one strict order with the same members are one list
pub one_list : {X : Type 0} (R : X → X → Type 0) → ((x y : X) → R x y → R y x → ⊥) → (xs ys : List X) → AllPairs R xs → AllPairs R ys → ((z : X) → Contains xs z → Contains ys z) → ((z : X) → Contains ys z → Contains xs z) → xs ≡ ys
one_list R asym [] [] p q to from = refl
one_list R asym [] (y ∷ ys) p q to from = absurd (Contains-nil y (from y (cons_here y ys)))
one_list R asym (x ∷ xs) [] p q to from = absurd (Contains-nil x (to x (cons_here x xs)))
one_list {X} R asym (x ∷ xs) (y ∷ ys) p q to from =
    ap (λ (z : X). z ∷ xs) same ∙ ap (λ (zs : List X). y ∷ zs) (one_list R asym xs ys (pairs_tail R x xs p) (pairs_tail R y ys q) into back)
  where
    same : x ≡ y
    same = ⊎_elim
        (λ (e : y ≡ x). sym e)
        (λ (later : Contains ys x). ⊎_elim
        (λ (e : x ≡ y). e)
        (λ (other : Contains xs y). absurd (asym x y (head_before R x xs y p other) (head_before R y ys x q later)))
        (cons_cases x xs y (from y (cons_here y ys))))
        (cons_cases y ys x (to x (cons_here x xs)))

    into : (z : X) → Contains xs z → Contains ys z
    into z h = ⊎_elim
        (λ (e : y ≡ z). let r : R x x = subst (R x) (sym (same ∙ e)) (head_before R x xs z p h) in absurd (asym x x r r))
        (λ (there : Contains ys z). there)
        (cons_cases y ys z (to z (Contains-cons x xs z h)))

    back : (z : X) → Contains ys z → Contains xs z
    back z h = ⊎_elim
        (λ (e : x ≡ z). let r : R y y = subst (R y) (sym (sym same ∙ e)) (head_before R y ys z q h) in absurd (asym y y r r))
        (λ (there : Contains xs z). there)
        (cons_cases x xs z (from z (Contains-cons y ys z h)))

less_twice : (o p : Ordering) → o ≡ ordering_reverse p → o ≡ Less → p ≡ Less → ⊥
less_twice o Less e l q = let t : Less ≡ Greater = sym l ∙ e in cc
less_twice o Equal e l q = cc
less_twice o Greater e l q = cc

-- two rising lists with the same members are one list
pub one_rising_list : {X : Type 0} (cmp : X → X → Ordering) → IsTotalOrder cmp → (xs ys : List X) → AllPairs (λ x y. cmp x y ≡ Less) xs → AllPairs (λ x y. cmp x y ≡ Less) ys → ((z : X) → Contains xs z ↔ Contains ys z) → xs ≡ ys
one_rising_list {X} cmp total xs ys p q same =
    one_list (λ (x y : X). cmp x y ≡ Less) (λ x y. less_twice (cmp x y) (cmp y x) (total.antisymm x y)) xs ys p q (λ z. (same z).0) (λ z. (same z).1)

pub name_total : IsTotalOrder name_cmp
name_total = then_total (on_total (λ (n : SegmentName). n.0) nat_list_cmp_total) (then_total (on_total (λ (n : SegmentName). n.1) nat_list_cmp_total) (on_total (λ (n : SegmentName). n.2) nat_list_cmp_total))

pub pair_total : {N : Type 0} (cmp : N → N → Ordering) → IsTotalOrder cmp → IsTotalOrder (pair_cmp cmp)
pair_total {N} cmp total = then_total (on_total (λ (p : N × N). p.0) total) (on_total (λ (p : N × N). p.1) total)

-- what stands before an element, and what after it
parted : {X : Type 0} (ys : List X) (x : X) → Contains ys x → (front : List X) × (rest : List X) × (ys ≡ front ++ x ∷ rest)
parted [] x c = absurd (Contains-nil x c)
parted {X} (y ∷ ys) x (zero, lt, is) = ([], ys, ap (λ (z : X). z ∷ ys) is)
parted {X} (y ∷ ys) x (suc k, lt, is) =
    let r = parted ys x (k, omega arith, is) in
    (y ∷ r.0, r.1, ap (λ (zs : List X). y ∷ zs) r.2)

-- the others stand in what is left of the list without the first
others_left : {X : Type 0} (x : X) (xs ys front rest : List X) → ys ≡ front ++ x ∷ rest → AllPairs (λ (u v : X). u ≢ v) (x ∷ xs) → ((z : X) → Contains (x ∷ xs) z → Contains ys z) → (z : X) → Contains xs z → Contains (front ++ rest) z
others_left {X} x xs ys front rest is differ to z c = ⊎_elim
    (λ (h : Contains front z). Contains-append_left front rest z h)
    (λ (h : Contains (x ∷ rest) z). ⊎_elim
    (λ (e : x ≡ z). absurd (head_before (λ (u v : X). u ≢ v) x xs z differ c e))
    (λ (d : Contains rest z). Contains-append_right front rest z d)
    (cons_cases x rest z h))
    (Contains-append_cases front (x ∷ rest) z (subst (λ (zs : List X). Contains zs z) is (to z (Contains-cons x xs z c))))

longer : {X : Type 0} (x : X) (ys front rest : List X) (n : ℕ) → ys ≡ front ++ x ∷ rest → n ≤ length (front ++ rest) → suc n ≤ length ys
longer {X} x ys front rest n is less =
    let whole : length ys ≡ length (front ++ x ∷ rest) = ap (λ (zs : List X). length zs) is in
    omega (arith, length-append front rest, length-append front (x ∷ rest))

-- different elements of a list are no more than its elements
pub few_different : {X : Type 0} (xs ys : List X) → AllPairs (λ (x y : X). x ≢ y) xs → ((z : X) → Contains xs z → Contains ys z) → length xs ≤ length ys
few_different [] ys differ to = omega arith
few_different {X} (x ∷ xs) ys differ to =
    let r = parted ys x (to x (cons_here x xs)) in
    longer x ys r.0 r.1 (length xs) r.2 (few_different xs (r.0 ++ r.1) (pairs_tail (λ (u v : X). u ≢ v) x xs differ) (others_left x xs ys r.0 r.1 r.2 differ to))

-- a list has one number of different elements
pub one_count : {X : Type 0} (n m : ℕ) (xs : List X) → CountsDistinct n xs → CountsDistinct m xs → n ≡ m
one_count n m xs p q =
    let a : length p.all ≤ length q.all = few_different p.all q.all p.differ (λ z c. (q.exactly z).1 ((p.exactly z).0 c)) in
    let b : length q.all ≤ length p.all = few_different q.all p.all q.differ (λ z c. (p.exactly z).1 ((q.exactly z).0 c)) in
    let e : length p.all ≡ n = p.count in
    let f : length q.all ≡ m = q.count in
    omega arith
