-- Rising lists, and the union of two.
use Rattle.std.proofs.Common.{◌≡◌, ◌⊎◌, zero, suc, ◌<◌, ◌↔◌, List, [], ◌∷◌, length, get_or, refl, sym, ◌∙◌, subst, ⊎_elim, inl, inr, arith, Ordering}
use Rattle.std.specs.declared.cmp.Ordering.TheVariants.{Less, Equal, Greater}
use Rattle.std.specs.List.{Contains, AllPairs}
use Rattle.std.specs.Ordering.{ordering_reverse}
use Rattle.std.proofs.lemmas.List.Elements.{Contains-get_or}
use Rattle.digest_facts.specs.Digests.{TellsApart, placed, with_one, union, Rises}

pub nil_has : {X : Type 0} (x : X) → Contains [] x → ⊥
nil_has x c = let lt : c.0 < 0 = c.1 in absurd (omega arith)

pub cons_here : {X : Type 0} (x : X) (xs : List X) → Contains (x ∷ xs) x
cons_here x xs = (zero, omega arith, refl)

pub cons_there : {X : Type 0} (x : X) (xs : List X) (y : X) → Contains xs y → Contains (x ∷ xs) y
cons_there x xs y c = let lt : c.0 < length xs = c.1 in (suc c.0, omega arith, c.2)

pub cons_cases : {X : Type 0} (x : X) (xs : List X) (z : X) → Contains (x ∷ xs) z → (x ≡ z) ⊎ Contains xs z
cons_cases x xs z (zero, lt, is) = inl is
cons_cases x xs z (suc k, lt, is) = inr (k, omega arith, is)

pub pairs_tail : {X : Type 0} (R : X → X → Type 0) (x : X) (xs : List X) → AllPairs R (x ∷ xs) → AllPairs R xs
pairs_tail R x xs p = λ i j d lt within. p (suc i) (suc j) d (omega arith) (omega arith)

pub head_before : {X : Type 0} (R : X → X → Type 0) (x : X) (xs : List X) (z : X) → AllPairs R (x ∷ xs) → Contains xs z → R x z
head_before R x xs z p (k, lt, is) = subst (R x) is (p zero (suc k) z (omega arith) (omega arith))

pub rises_cons : {X : Type 0} (R : X → X → Type 0) (x : X) (xs : List X) → ((z : X) → Contains xs z → R x z) → AllPairs R xs → AllPairs R (x ∷ xs)
rises_cons R x xs head tail zero zero d lt within = absurd (omega arith)
rises_cons R x xs head tail zero (suc j) d lt within = head (get_or xs j d) (Contains-get_or xs j d (omega arith))
rises_cons R x xs head tail (suc i) zero d lt within = absurd (omega arith)
rises_cons R x xs head tail (suc i) (suc j) d lt within = tail i j d (omega arith) (omega arith)

module _ {X : Type 0} (cmp : X → X → Ordering) (o : TellsApart cmp) where
  placed_has : (c : Ordering) (x y : X) (ys more : List X) (z : X) → cmp x y ≡ c → ((w : X) → Contains more w ↔ ((x ≡ w) ⊎ Contains ys w)) → Contains (placed c x y ys more) z ↔ ((x ≡ z) ⊎ Contains (y ∷ ys) z)
  placed_has Less x y ys more z e h = (
    (λ c. cons_cases x (y ∷ ys) z c),
    (λ s. ⊎_elim (λ (q : x ≡ z). subst (λ (v : X). Contains (x ∷ y ∷ ys) v) q (cons_here x (y ∷ ys))) (λ (q : Contains (y ∷ ys) z). cons_there x (y ∷ ys) z q) s),
  )
  placed_has Equal x y ys more z e h = (
    (λ c. inr c),
    (λ s. ⊎_elim (λ (q : x ≡ z). let same : y ≡ z = sym (o.one x y e) ∙ q in subst (λ (v : X). Contains (y ∷ ys) v) same (cons_here y ys)) (λ (q : Contains (y ∷ ys) z). q) s),
  )
  placed_has Greater x y ys more z e h = (
    (λ c. ⊎_elim (λ (q : y ≡ z). inr (subst (λ (v : X). Contains (y ∷ ys) v) q (cons_here y ys)))
        (λ (q : Contains more z). ⊎_elim (λ (r : x ≡ z). inl r) (λ (r : Contains ys z). inr (cons_there y ys z r)) ((h z).0 q))
        (cons_cases y more z c)),
    (λ s. ⊎_elim (λ (q : x ≡ z). cons_there y more z ((h z).1 (inl q)))
        (λ (q : Contains (y ∷ ys) z). ⊎_elim (λ (r : y ≡ z). subst (λ (v : X). Contains (y ∷ more) v) r (cons_here y more)) (λ (r : Contains ys z). cons_there y more z ((h z).1 (inr r))) (cons_cases y ys z q))
        s),
  )

  pub with_one_has : (x : X) (ys : List X) (z : X) → Contains (with_one cmp x ys) z ↔ ((x ≡ z) ⊎ Contains ys z)
  with_one_has x [] z = (
    (λ c. cons_cases x [] z c),
    (λ s. ⊎_elim (λ (q : x ≡ z). subst (λ (v : X). Contains (x ∷ []) v) q (cons_here x [])) (λ (q : Contains [] z). absurd (nil_has z q)) s),
  )
  with_one_has x (y ∷ ys) z = placed_has (cmp x y) x y ys (with_one cmp x ys) z refl (λ w. with_one_has x ys w)

  greater_turned : (x y : X) → cmp x y ≡ Greater → cmp y x ≡ Less
  greater_turned x y e = turned (cmp x y) (cmp y x) (o.total.antisymm x y) e
    where
      turned : (a b : Ordering) → a ≡ ordering_reverse b → a ≡ Greater → b ≡ Less
      turned a Less q r = refl
      turned a Equal q r = let t : Greater ≡ Equal = sym r ∙ q in cc
      turned a Greater q r = let t : Greater ≡ Less = sym r ∙ q in cc

  placed_rises : (c : Ordering) (x y : X) (ys more : List X) → cmp x y ≡ c → Rises cmp (y ∷ ys) → Rises cmp more → ((w : X) → Contains more w → (x ≡ w) ⊎ Contains ys w) → Rises cmp (placed c x y ys more)
  placed_rises Less x y ys more e up rest h =
      rises_cons (λ (a b : X). cmp a b ≡ Less) x (y ∷ ys) (λ z c. ⊎_elim
      (λ (q : y ≡ z). subst (λ (v : X). cmp x v ≡ Less) q e)
      (λ (q : Contains ys z). o.total.trans x y z e (head_before (λ (a b : X). cmp a b ≡ Less) y ys z up q))
      (cons_cases y ys z c)) up
  placed_rises Equal x y ys more e up rest h = up
  placed_rises Greater x y ys more e up rest h =
      rises_cons (λ (a b : X). cmp a b ≡ Less) y more (λ z c. ⊎_elim
      (λ (q : x ≡ z). subst (λ (v : X). cmp y v ≡ Less) q (greater_turned x y e))
      (λ (q : Contains ys z). head_before (λ (a b : X). cmp a b ≡ Less) y ys z up q)
      (h z c)) rest

  pub with_one_rises : (x : X) (ys : List X) → Rises cmp ys → Rises cmp (with_one cmp x ys)
  with_one_rises x [] up = λ i j d lt within. absurd (omega arith)
  with_one_rises x (y ∷ ys) up =
      placed_rises (cmp x y) x y ys (with_one cmp x ys) refl up
      (with_one_rises x ys (pairs_tail (λ (a b : X). cmp a b ≡ Less) y ys up)) (λ w c. (with_one_has x ys w).0 c)

  pub union_has : (xs ys : List X) (z : X) → Contains (union cmp xs ys) z ↔ (Contains xs z ⊎ Contains ys z)
  union_has [] ys z = ((λ c. inr c), (λ s. ⊎_elim (λ (q : Contains [] z). absurd (nil_has z q)) (λ (q : Contains ys z). q) s))
  union_has (x ∷ xs) ys z = (
    (λ c. ⊎_elim (λ (q : x ≡ z). inl (subst (λ (v : X). Contains (x ∷ xs) v) q (cons_here x xs)))
        (λ (q : Contains (union cmp xs ys) z). ⊎_elim (λ (r : Contains xs z). inl (cons_there x xs z r)) (λ (r : Contains ys z). inr r) ((union_has xs ys z).0 q))
        ((with_one_has x (union cmp xs ys) z).0 c)),
    (λ s. (with_one_has x (union cmp xs ys) z).1 (⊎_elim
        (λ (q : Contains (x ∷ xs) z). ⊎_elim (λ (r : x ≡ z). inl r) (λ (r : Contains xs z). inr ((union_has xs ys z).1 (inl r))) (cons_cases x xs z q))
        (λ (q : Contains ys z). inr ((union_has xs ys z).1 (inr q)))
        s)),
  )

  pub union_rises : (xs ys : List X) → Rises cmp ys → Rises cmp (union cmp xs ys)
  union_rises [] ys up = up
  union_rises (x ∷ xs) ys up = with_one_rises x (union cmp xs ys) (union_rises xs ys up)
