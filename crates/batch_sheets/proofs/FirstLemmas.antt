-- The order of first sight: of a part, in two steps, and of what is there already.
use Rattle.std.proofs.Common.{◌≡◌, ◌≢◌, zero, suc, inl, inr, Bool, true, false, not, List, [], ◌∷◌, ◌++◌, filter, All, AllPairs, Contains, refl, sym, ap, ◌∙◌, subst, true≢false, arith}
use Rattle.std.proofs.lemmas.Bool.{cases_Bool, cond-true, cond-false, not_from_true, not_from_false}
use Rattle.std.proofs.lemmas.List.Elements.{All-nil, All-cons, All-head, All-tail, All-weaker, filter-append}
use Rattle.trace_types.specs.Firsts.{firsts_of}

-- two filters in either order
filter_turn : {X : Type 0} (p q : X → Bool) (xs : List X) → filter p (filter q xs) ≡ filter q (filter p xs)
filter_turn p q [] = refl
filter_turn p q (x ∷ xs) = by (p x) (q x) refl refl (filter_turn p q xs)
  where
    by : (b c : Bool) → p x ≡ b → q x ≡ c → filter p (filter q xs) ≡ filter q (filter p xs) → filter p (filter q (x ∷ xs)) ≡ filter q (filter p (x ∷ xs))
    by true true e f h = simp (e, f, h) refl
    by true false e f h = simp (e, f, h) refl
    by false true e f h = simp (e, f, h) refl
    by false false e f h = simp (e, f, h) refl

-- a filter after another one that keeps all that it keeps
filter_within : {X : Type 0} (p q : X → Bool) → ((x : X) → p x ≡ true → q x ≡ true) → (xs : List X) → filter p (filter q xs) ≡ filter p xs
filter_within p q keeps [] = refl
filter_within p q keeps (x ∷ xs) = by (p x) (q x) refl refl (filter_within p q keeps xs)
  where
    by : (b c : Bool) → p x ≡ b → q x ≡ c → filter p (filter q xs) ≡ filter p xs → filter p (filter q (x ∷ xs)) ≡ filter p (x ∷ xs)
    by true true e f h = simp (e, f, h) refl
    by true false e f h = absurd (true≢false (sym (keeps x e) ∙ f))
    by false true e f h = simp (e, f, h) refl
    by false false e f h = simp (e, f, h) refl

-- a filter that all pass
filter_all : {X : Type 0} (p : X → Bool) (xs : List X) → All (λ x. p x ≡ true) xs → filter p xs ≡ xs
filter_all p [] h = refl
filter_all p (x ∷ xs) h = cond-true (p x) (x ∷ filter p xs) (filter p xs) (All-head (λ y. p y ≡ true) x xs h) ∙ ap (λ l. x ∷ l) (filter_all p xs (All-tail (λ y. p y ≡ true) x xs h))

module _ {X : Type 0} (same : X → X → Bool) (means : (x y : X) → same x y ≡ true → x ≡ y) where
  -- all but those that are the same as this
  abbrev others : X → X → Bool
  others x = λ z. not (same x z)

  -- of the items that pass a test, the order of first sight
  pub firsts_filter : (p : X → Bool) (xs : List X) → filter p (firsts_of same xs) ≡ firsts_of same (filter p xs)
  firsts_filter p [] = refl
  firsts_filter p (x ∷ xs) = by (p x) refl (firsts_filter p xs)
    where
      keeps : p x ≡ false → (z : X) → p z ≡ true → not (same x z) ≡ true
      keeps e z h = elim (cases_Bool (same x z)) [
        | inl good ↦ absurd (true≢false (sym h ∙ (ap p (sym (means x z good)) ∙ e)))
        | inr bad ↦ not_from_false (same x z) bad
      ]

      by : (b : Bool) → p x ≡ b → filter p (firsts_of same xs) ≡ firsts_of same (filter p xs) → filter p (firsts_of same (x ∷ xs)) ≡ firsts_of same (filter p (x ∷ xs))
      by true e h = rw e (ap (λ l. x ∷ l) (filter_turn p (others x) (firsts_of same xs) ∙ ap (filter (others x)) h))
      by false e h = rw e (filter_within p (others x) (keeps e) (firsts_of same xs) ∙ h)

  -- more after what was seen first
  pub firsts_again : (xs ys : List X) → firsts_of same (firsts_of same xs ++ ys) ≡ firsts_of same (xs ++ ys)
  firsts_again [] ys = refl
  firsts_again (x ∷ xs) ys =
      let seen : List X = firsts_of same xs in
      let p : X → Bool = others x in
      let part : filter p (filter p seen ++ ys) ≡ filter p (seen ++ ys) =
      filter-append p (filter p seen) ys ∙ (ap (λ l. l ++ filter p ys) (filter_within p p (λ z h. h) seen) ∙ sym (filter-append p seen ys)) in
      ap (λ l. x ∷ l) (firsts_filter p (filter p seen ++ ys) ∙ (ap (firsts_of same) part ∙ (sym (firsts_filter p (seen ++ ys)) ∙ ap (filter p) (firsts_again xs ys))))

  differ : (x y : X) → x ≢ y → others x y ≡ true
  differ x y other = elim (cases_Bool (same x y)) [
    | inl good ↦ absurd (other (means x y good))
    | inr bad ↦ not_from_false (same x y) bad
  ]

  heads : (x : X) (xs : List X) → AllPairs (λ x y. x ≢ y) (x ∷ xs) → filter (others x) xs ≡ xs
  heads x xs p = filter_all (others x) xs (All-weaker (λ y. x ≢ y) (λ y. others x y ≡ true) (differ x) xs (λ k d l. p 0 (suc k) d (omega arith) (omega (arith, l))))

  tails : (x : X) (xs : List X) → AllPairs (λ x y. x ≢ y) (x ∷ xs) → AllPairs (λ x y. x ≢ y) xs
  tails x xs p i j d l m = p (suc i) (suc j) d (omega (arith, l)) (omega (arith, m))

  -- of different items, all
  pub firsts_same : (xs : List X) → AllPairs (λ x y. x ≢ y) xs → firsts_of same xs ≡ xs
  firsts_same [] p = refl
  firsts_same (x ∷ xs) p = ap (λ l. x ∷ l) (ap (filter (others x)) (firsts_same xs (tails x xs p)) ∙ heads x xs p)

  -- what is left when an item is gone is in the rest
  left_there : (own : (x : X) → same x x ≡ true) (x : X) (xs ys : List X) → All (Contains (x ∷ xs)) ys → All (Contains xs) (filter (others x) ys)
  left_there own x xs [] h = All-nil (Contains xs)
  left_there own x xs (y ∷ ys) h =
      let rest = left_there own x xs ys (All-tail (Contains (x ∷ xs)) y ys h) in
      elim (cases_Bool (others x y)) [
        | inl good ↦ rw (cond-true (others x y) (y ∷ filter (others x) ys) (filter (others x) ys) good) (All-cons (Contains xs) y (filter (others x) ys) (by good (All-head (Contains (x ∷ xs)) y ys h)) rest)
        | inr bad ↦ rw (cond-false (others x y) (y ∷ filter (others x) ys) (filter (others x) ys) bad) rest
      ]
    where
      by : others x y ≡ true → Contains (x ∷ xs) y → Contains xs y
      by good (zero, l, e) = absurd (true≢false (sym good ∙ not_from_true (same x y) (subst (λ z. same x z ≡ true) e (own x))))
      by good (suc k, l, e) = (k, omega (arith, l), e)

  -- items that are there add nothing
  pub firsts_there : (own : (x : X) → same x x ≡ true) (xs ys : List X) → AllPairs (λ x y. x ≢ y) xs → All (Contains xs) ys → firsts_of same (xs ++ ys) ≡ xs
  firsts_there own [] [] p h = refl
  firsts_there own [] (y ∷ ys) p h = let c = All-head (Contains []) y ys h in absurd (omega (arith, c.1))
  firsts_there own (x ∷ xs) ys p h =
      let left = filter (others x) ys in
      ap (λ l. x ∷ l) (firsts_filter (others x) (xs ++ ys) ∙ (ap (firsts_of same) (filter-append (others x) xs ys ∙ ap (λ l. l ++ left) (heads x xs p)) ∙ firsts_there own xs left (tails x xs p) (left_there own x xs ys h)))
