-- A step of merging two rising lists.
use Rattle.std.proofs.Common.{◌≡◌, ◌⊎◌, ℕ, zero, suc, ◌+◌, ◌<◌, List, [], ◌∷◌, length, get_or, drop, refl, sym, ap, ◌∙◌, subst, ⊎_elim, inl, inr, arith, Ordering}
use Rattle.std.specs.declared.cmp.Ordering.TheVariants.{Less}
use Rattle.std.specs.List.{Contains}
use Rattle.digest_facts.specs.Digests.{Rises, TellsApart, union}
use Rattle.digest_facts.proofs.MergeLemmas.{commutes, one_rising}
use Rattle.digest_facts.proofs.UnionLemmas.{cons_cases, cons_here, cons_there, head_before, pairs_tail, rises_cons, union_has, union_rises}

module _ {X : Type 0} (cmp : X → X → Ordering) (o : TellsApart cmp) where
  R : X → X → Type 0
  R a b = cmp a b ≡ Less

  -- the first of the one comes before all of the other
  pub less_all : (x y : X) (ys : List X) → cmp x y ≡ Less → Rises cmp (y ∷ ys) → (z : X) → Contains (y ∷ ys) z → cmp x z ≡ Less
  less_all x y ys lt q z c = ⊎_elim
      (λ (e : y ≡ z). subst (λ (v : X). cmp x v ≡ Less) e lt)
      (λ (h : Contains ys z). o.total.trans x y z lt (head_before (λ (a b : X). cmp a b ≡ Less) y ys z q h))
      (cons_cases y ys z c)

  -- it is the first of the union
  pub first_left : (x : X) (xs ys : List X) → Rises cmp (x ∷ xs) → Rises cmp ys → ((z : X) → Contains ys z → cmp x z ≡ Less) → union cmp (x ∷ xs) ys ≡ x ∷ union cmp xs ys
  first_left x xs ys p q less = one_rising cmp o (union cmp (x ∷ xs) ys) (x ∷ union cmp xs ys) (union_rises cmp o (x ∷ xs) ys q)
      (rises_cons (λ (a b : X). cmp a b ≡ Less) x (union cmp xs ys) (λ z c. ⊎_elim (λ (h : Contains xs z). head_before (λ (a b : X). cmp a b ≡ Less) x xs z p h) (λ (h : Contains ys z). less z h) ((union_has cmp o xs ys z).0 c)) (union_rises cmp o xs ys q))
      (λ z. (
        (λ c. ⊎_elim
            (λ (h : Contains (x ∷ xs) z). ⊎_elim (λ (e : x ≡ z). subst (λ (v : X). Contains (x ∷ union cmp xs ys) v) e (cons_here x (union cmp xs ys))) (λ (k : Contains xs z). cons_there x (union cmp xs ys) z ((union_has cmp o xs ys z).1 (inl k))) (cons_cases x xs z h))
            (λ (h : Contains ys z). cons_there x (union cmp xs ys) z ((union_has cmp o xs ys z).1 (inr h)))
            ((union_has cmp o (x ∷ xs) ys z).0 c)),
        (λ c. (union_has cmp o (x ∷ xs) ys z).1 (⊎_elim
            (λ (e : x ≡ z). inl (subst (λ (v : X). Contains (x ∷ xs) v) e (cons_here x xs)))
            (λ (h : Contains (union cmp xs ys) z). ⊎_elim (λ (k : Contains xs z). inl (cons_there x xs z k)) (λ (k : Contains ys z). inr k) ((union_has cmp o xs ys z).0 h))
            (cons_cases x (union cmp xs ys) z c))),
      ))

  pub first_right : (y : X) (xs ys : List X) → Rises cmp xs → Rises cmp (y ∷ ys) → ((z : X) → Contains xs z → cmp y z ≡ Less) → union cmp xs (y ∷ ys) ≡ y ∷ union cmp xs ys
  first_right y xs ys p q less =
      commutes cmp o xs (y ∷ ys) p q ∙ first_left y ys xs q p less
      ∙ ap (λ (l : List X). y ∷ l) (commutes cmp o ys xs (pairs_tail (λ (a b : X). cmp a b ≡ Less) y ys q) p)

  pub first_both : (x y : X) (xs ys : List X) → x ≡ y → Rises cmp (x ∷ xs) → Rises cmp (y ∷ ys) → union cmp (x ∷ xs) (y ∷ ys) ≡ x ∷ union cmp xs ys
  first_both x y xs ys e p q = one_rising cmp o (union cmp (x ∷ xs) (y ∷ ys)) (x ∷ union cmp xs ys) (union_rises cmp o (x ∷ xs) (y ∷ ys) q)
      (rises_cons (λ (a b : X). cmp a b ≡ Less) x (union cmp xs ys) (λ z c. ⊎_elim (λ (h : Contains xs z). head_before (λ (a b : X). cmp a b ≡ Less) x xs z p h)
      (λ (h : Contains ys z). subst (λ (v : X). cmp v z ≡ Less) (sym e) (head_before (λ (a b : X). cmp a b ≡ Less) y ys z q h)) ((union_has cmp o xs ys z).0 c)) (union_rises cmp o xs ys (pairs_tail (λ (a b : X). cmp a b ≡ Less) y ys q)))
      (λ z. (
        (λ c. ⊎_elim
            (λ (h : Contains (x ∷ xs) z). ⊎_elim (λ (s : x ≡ z). subst (λ (v : X). Contains (x ∷ union cmp xs ys) v) s (cons_here x (union cmp xs ys))) (λ (k : Contains xs z). cons_there x (union cmp xs ys) z ((union_has cmp o xs ys z).1 (inl k))) (cons_cases x xs z h))
            (λ (h : Contains (y ∷ ys) z). ⊎_elim (λ (s : y ≡ z). subst (λ (v : X). Contains (x ∷ union cmp xs ys) v) (e ∙ s) (cons_here x (union cmp xs ys))) (λ (k : Contains ys z). cons_there x (union cmp xs ys) z ((union_has cmp o xs ys z).1 (inr k))) (cons_cases y ys z h))
            ((union_has cmp o (x ∷ xs) (y ∷ ys) z).0 c)),
        (λ c. (union_has cmp o (x ∷ xs) (y ∷ ys) z).1 (⊎_elim
            (λ (s : x ≡ z). inl (subst (λ (v : X). Contains (x ∷ xs) v) s (cons_here x xs)))
            (λ (h : Contains (union cmp xs ys) z). ⊎_elim (λ (k : Contains xs z). inl (cons_there x xs z k)) (λ (k : Contains ys z). inr (cons_there y ys z k)) ((union_has cmp o xs ys z).0 h))
            (cons_cases x (union cmp xs ys) z c))),
      ))

  pub rises_drop : (i : ℕ) (xs : List X) → Rises cmp xs → Rises cmp (drop i xs)
  rises_drop zero xs p = p
  rises_drop (suc i) [] p = p
  rises_drop (suc i) (x ∷ xs) p = rises_drop i xs (pairs_tail (λ (a b : X). cmp a b ≡ Less) x xs p)

  pub drop_here : (i : ℕ) (xs : List X) (d : X) → i < length xs → drop i xs ≡ get_or xs i d ∷ drop (i + 1) xs
  drop_here zero [] d lt = absurd (omega arith)
  drop_here zero (x ∷ xs) d lt = refl
  drop_here (suc i) [] d lt = absurd (omega arith)
  drop_here (suc i) (x ∷ xs) d lt =
      let e : suc (i + 1) ≡ suc i + 1 = omega arith in
      drop_here i xs d (omega arith) ∙ ap (λ (n : ℕ). get_or xs i d ∷ drop n (x ∷ xs)) e
