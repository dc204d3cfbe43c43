-- Numbers of things with a property, and of pairs in a relation.
use Rattle.std.proofs.Common.{◌≡◌, ◌≢◌, ◌⊎◌, ◌↔◌, ℕ, ◌+◌, ◌<◌, Bool, true, false, [], ◌∷◌, ◌++◌, refl, sym, ap, ◌∙◌, subst, inl, inr, ⊎_elim, arith}
use Rattle.std.specs.Int.{from_bool}
use Rattle.std.specs.List.{Contains}
use Rattle.std.proofs.lemmas.Bool.{cases_eq, false≢true}
use Rattle.std.proofs.lemmas.List.{length-append}
use Rattle.std.proofs.lemmas.List.Elements.{Contains-append_left, Contains-append_right, Contains-append_cases}
use Rattle.trace_types.proofs.ListingLemmas.{Contains-nil}
use Rattle.trace_types.proofs.ElementLemmas.{Contains-one, Contains-itself}
use Rattle.trace_types.proofs.PairLemmas.{AllPairs-nil, AllPairs-append}
use Rattle.model_meet.specs.Counting.{CountsPairs}
use Rattle.trace_types.specs.Listing.{AreExactly}
use Rattle.model_meet.specs.inner.Beside.{IsBeside, CountsBeside}

pub none_exactly : {X : Type 0} (P : X → Type 0) → ((x : X) → P x → ⊥) → AreExactly P 0
none_exactly {X} P none = record {
  all = [];
  differ = AllPairs-nil (λ (x y : X). x ≢ y);
  exactly = λ x. ((λ c. absurd (Contains-nil x c)), (λ p. absurd (none x p)));
  count = refl;
}

pub exactly_alike : {X : Type 0} (P Q : X → Type 0) (n : ℕ) → ((x : X) → P x ↔ Q x) → AreExactly P n → AreExactly Q n
exactly_alike P Q n same a = record {
  all = a.all;
  differ = a.differ;
  exactly = λ x. ((λ c. (same x).0 ((a.exactly x).0 c)), (λ q. (a.exactly x).1 ((same x).1 q)));
  count = a.count;
}

-- where nothing has both properties, the numbers add up
pub exactly_both : {X : Type 0} (P Q : X → Type 0) (m n : ℕ) → ((x : X) → P x → Q x → ⊥) → AreExactly P m → AreExactly Q n → AreExactly (λ x. P x ⊎ Q x) (m + n)
exactly_both {X} P Q m n never a b = record {
  all = a.all ++ b.all;
  differ = AllPairs-append (λ (x y : X). x ≢ y) a.all b.all a.differ b.differ
      (λ x y c d e. never y (subst P e ((a.exactly x).0 c)) ((b.exactly y).0 d));
  exactly = λ x. (
    (λ c. ⊎_elim (λ (d : Contains a.all x). inl ((a.exactly x).0 d)) (λ (d : Contains b.all x). inr ((b.exactly x).0 d)) (Contains-append_cases a.all b.all x c)),
    (λ h. ⊎_elim (λ (p : P x). Contains-append_left a.all b.all x ((a.exactly x).1 p)) (λ (q : Q x). Contains-append_right a.all b.all x ((b.exactly x).1 q)) h),
  );
  count = let e = a.count in let f = b.count in omega (arith, length-append a.all b.all);
}

pub one_exactly : {X : Type 0} (x : X) → AreExactly (λ y. x ≡ y) 1
one_exactly x = record {
  all = x ∷ [];
  differ = λ i j d lt h. absurd (omega arith);
  exactly = λ y. (Contains-one x y, Contains-itself x y);
  count = refl;
}

-- one more, where the test says so
pub exactly_tested : {X : Type 0} (P : X → Type 0) (n : ℕ) (x : X) (H : Type 0) (b : Bool) → (b ≡ true) ↔ H → (P x → ⊥) → AreExactly P n → AreExactly (λ y. P y ⊎ ((x ≡ y) × H)) (n + from_bool b)
exactly_tested {X} P n x H true told fresh a =
    exactly_alike (λ y. P y ⊎ (x ≡ y)) (λ y. P y ⊎ ((x ≡ y) × H)) (n + 1)
    (λ y. (
      (λ h. ⊎_elim (λ (p : P y). inl p) (λ (e : x ≡ y). inr (e, told.0 refl)) h),
      (λ h. ⊎_elim (λ (p : P y). inl p) (λ (e : (x ≡ y) × H). inr e.0) h),
    ))
    (exactly_both P (λ y. x ≡ y) n 1 (λ y p e. fresh (subst P (sym e) p)) a (one_exactly x))
exactly_tested {X} P n x H false told fresh a =
    let same : n + 0 ≡ n = omega arith in
    subst (AreExactly (λ y. P y ⊎ ((x ≡ y) × H))) (sym same)
    (exactly_alike P (λ y. P y ⊎ ((x ≡ y) × H)) n
    (λ y. (
      (λ p. inl p),
      (λ h. ⊎_elim (λ (p : P y). p) (λ (e : (x ≡ y) × H). absurd (false≢true (told.1 e.1))) h),
    ))
    a)

abbrev pair_of : ℕ → ℕ → ℕ × ℕ
pair_of a b = (a, b)

same_pair : (a b : ℕ) (pair : ℕ × ℕ) → a ≡ pair.0 → b ≡ pair.1 → pair_of a b ≡ pair
same_pair a b pair e f = ap (λ (k : ℕ). pair_of k b) e ∙ ap (λ (k : ℕ). pair_of pair.0 k) f

module _ (R : ℕ → ℕ → Type 0) where
  -- ---- the pairs of one number with lesser ones
  pub beside_none : (high : ℕ) → CountsBeside high 0 R 0
  beside_none high = none_exactly _ (λ pair h. ⊎_elim
      (λ (e : (pair.0 ≡ high) × (pair.1 < 0)). absurd (let l = e.1 in omega arith))
      (λ (e : (pair.1 ≡ high) × (pair.0 < 0)). absurd (let l = e.1 in omega arith))
      h.0)

  module _ (high k n : ℕ) (less : k < high) (forth back : Bool) (tells : (forth ≡ true) ↔ R k high) (tells_back : (back ≡ true) ↔ R high k) where
    abbrev Before : ℕ × ℕ → Type 0
    Before pair = IsBeside high k pair × R pair.0 pair.1

    abbrev Then : ℕ × ℕ → Type 0
    Then pair = Before pair ⊎ ((pair_of k high ≡ pair) × R k high)

    abbrev Both : ℕ × ℕ → Type 0
    Both pair = Then pair ⊎ ((pair_of high k ≡ pair) × R high k)

    fresh_forth : Before (pair_of k high) → ⊥
    fresh_forth h = ⊎_elim (λ (e : (k ≡ high) × (high < k)). let l = e.1 in absurd (omega arith)) (λ (e : (high ≡ high) × (k < k)). let l = e.1 in absurd (omega arith)) h.0

    fresh_back : Then (pair_of high k) → ⊥
    fresh_back h = ⊎_elim
        (λ (b : Before (pair_of high k)). ⊎_elim (λ (e : (high ≡ high) × (k < k)). let l = e.1 in absurd (omega arith)) (λ (e : (k ≡ high) × (high < k)). let l = e.1 in absurd (omega arith)) b.0)
        (λ (e : (pair_of k high ≡ pair_of high k) × R k high). let l : k ≡ high = ap (λ (p : ℕ × ℕ). p.0) e.0 in absurd (omega arith))
        h

    wider : (pair : ℕ × ℕ) → IsBeside high k pair → IsBeside high (k + 1) pair
    wider pair h = ⊎_elim
        (λ (e : (pair.0 ≡ high) × (pair.1 < k)). let l = e.1 in inl (e.0, omega arith))
        (λ (e : (pair.1 ≡ high) × (pair.0 < k)). let l = e.1 in inr (e.0, omega arith))
        h

    to : (pair : ℕ × ℕ) → Both pair → IsBeside high (k + 1) pair × R pair.0 pair.1
    to pair h = ⊎_elim
        (λ (t : Then pair). ⊎_elim
        (λ (b : Before pair). (wider pair b.0, b.1))
        (λ (e : (pair_of k high ≡ pair) × R k high). subst (λ (p : ℕ × ℕ). IsBeside high (k + 1) p × R p.0 p.1) e.0 (inr (refl, omega arith), e.1))
        t)
        (λ (e : (pair_of high k ≡ pair) × R high k). subst (λ (p : ℕ × ℕ). IsBeside high (k + 1) p × R p.0 p.1) e.0 (inl (refl, omega arith), e.1))
        h

    from_first : (pair : ℕ × ℕ) → pair.0 ≡ high → pair.1 < k + 1 → R pair.0 pair.1 → Both pair
    from_first pair e lt r = ⊎_elim
        (λ (f : pair.1 ≡ k). inr (same_pair high k pair (sym e) (sym f), subst (λ (v : ℕ). R v k) e (subst (λ (v : ℕ). R pair.0 v) f r)))
        (λ (f : pair.1 ≡ k → ⊥). let l : pair.1 < k = omega arith in inl (inl (inl (e, l), r)))
        (cases_eq pair.1 k)

    from_second : (pair : ℕ × ℕ) → pair.1 ≡ high → pair.0 < k + 1 → R pair.0 pair.1 → Both pair
    from_second pair e lt r = ⊎_elim
        (λ (f : pair.0 ≡ k). inl (inr (same_pair k high pair (sym f) (sym e), subst (λ (v : ℕ). R v high) f (subst (λ (v : ℕ). R pair.0 v) e r))))
        (λ (f : pair.0 ≡ k → ⊥). let l : pair.0 < k = omega arith in inl (inl (inr (e, l), r)))
        (cases_eq pair.0 k)

    pub beside_more : CountsBeside high k R n → CountsBeside high (k + 1) R (n + from_bool forth + from_bool back)
    beside_more a =
        exactly_alike Both (λ pair. IsBeside high (k + 1) pair × R pair.0 pair.1) (n + from_bool forth + from_bool back)
        (λ pair. (
          to pair,
          (λ h. ⊎_elim
              (λ (e : (pair.0 ≡ high) × (pair.1 < k + 1)). from_first pair e.0 e.1 h.1)
              (λ (e : (pair.1 ≡ high) × (pair.0 < k + 1)). from_second pair e.0 e.1 h.1)
              h.0),
        ))
        (exactly_tested Then (n + from_bool forth) (pair_of high k) (R high k) back tells_back fresh_back
        (exactly_tested Before n (pair_of k high) (R k high) forth tells fresh_forth a))

  -- ---- all pairs below a number
  pub pairs_none : CountsPairs 0 R 0
  pairs_none = none_exactly _ (λ pair h. absurd (let l = h.0 in omega arith))

  module _ (k m n : ℕ) (irreflexive : R k k → ⊥) where
    abbrev Inside : ℕ × ℕ → Type 0
    Inside pair = (pair.0 < k) × (pair.1 < k) × R pair.0 pair.1

    abbrev Edge : ℕ × ℕ → Type 0
    Edge pair = IsBeside k k pair × R pair.0 pair.1

    never : (pair : ℕ × ℕ) → Inside pair → Edge pair → ⊥
    never pair i e = ⊎_elim
        (λ (b : (pair.0 ≡ k) × (pair.1 < k)). let l = i.0 in let f = b.0 in absurd (omega arith))
        (λ (b : (pair.1 ≡ k) × (pair.0 < k)). let l = i.1 in let f = b.0 in absurd (omega arith))
        e.0

    whole : (pair : ℕ × ℕ) → Inside pair ⊎ Edge pair → (pair.0 < k + 1) × (pair.1 < k + 1) × R pair.0 pair.1
    whole pair h = ⊎_elim
        (λ (i : Inside pair). let a = i.0 in let b = i.1 in (omega arith, omega arith, i.2))
        (λ (e : Edge pair). ⊎_elim
        (λ (b : (pair.0 ≡ k) × (pair.1 < k)). let f = b.0 in let l = b.1 in (omega arith, omega arith, e.1))
        (λ (b : (pair.1 ≡ k) × (pair.0 < k)). let f = b.0 in let l = b.1 in (omega arith, omega arith, e.1))
        e.0)
        h

    parts : (pair : ℕ × ℕ) → pair.0 < k + 1 → pair.1 < k + 1 → R pair.0 pair.1 → Inside pair ⊎ Edge pair
    parts pair x y r = ⊎_elim
        (λ (e : pair.0 ≡ k). ⊎_elim
        (λ (f : pair.1 ≡ k). absurd (irreflexive (subst (λ (v : ℕ). R v k) e (subst (λ (v : ℕ). R pair.0 v) f r))))
        (λ (f : pair.1 ≡ k → ⊥). let l : pair.1 < k = omega arith in inr (inl (e, l), r))
        (cases_eq pair.1 k))
        (λ (e : pair.0 ≡ k → ⊥). let l : pair.0 < k = omega arith in ⊎_elim
        (λ (f : pair.1 ≡ k). inr (inr (f, l), r))
        (λ (f : pair.1 ≡ k → ⊥). let g : pair.1 < k = omega arith in inl (l, g, r))
        (cases_eq pair.1 k))
        (cases_eq pair.0 k)

    pub pairs_more : CountsPairs k R m → CountsBeside k k R n → CountsPairs (k + 1) R (m + n)
    pairs_more a b =
        exactly_alike (λ pair. Inside pair ⊎ Edge pair) (λ pair. (pair.0 < k + 1) × (pair.1 < k + 1) × R pair.0 pair.1) (m + n)
        (λ pair. (whole pair, (λ h. parts pair h.0 h.1 h.2)))
        (exactly_both Inside Edge m n never a b)
