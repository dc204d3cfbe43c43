-- Two lists that are alike, index by index, and what is made of them.
use Rattle.std.proofs.Common.{◌≡◌, ℕ, zero, suc, ◌+◌, Bool, cond, ◌||◌, Some, List, [], ◌∷◌, ◌++◌, map, refl, sym, ap, ◌∙◌, subst, inl, inr}
use Rattle.std.specs.Prelude.{filter, not, sum_by, count_by}
use Rattle.std.specs.List.{AllZip, flat_map, list_any, slice_get, zip}
use Rattle.std.proofs.lemmas.Bool.{cases_Bool, cond-true, cond-false}
use Rattle.std.proofs.lemmas.List.Sums.{sum_by-cons}
use Rattle.std.proofs.lemmas.Option.{same_Some}
use Rattle.trace_rules.specs.SlowTraces.{marked, unmarked}

module _ {A B : Type 0} (R : A → B → Type 0) where
  -- what stands at one index
  pub zip_get : (xs : List A) (ys : List B) → AllZip R xs ys → (i : ℕ) (x : A) → slice_get xs i ≡ Some x → (y : B) × (slice_get ys i ≡ Some y) × R x y
  zip_get [] [] z i x e = absurd (cc)
  zip_get [] (b ∷ ys) z i x e = absurd z
  zip_get (a ∷ xs) [] z i x e = absurd z
  zip_get (a ∷ xs) (b ∷ ys) z zero x e = (b, refl, subst (λ v. R v b) (same_Some a x e) z.0)
  zip_get (a ∷ xs) (b ∷ ys) z (suc i) x e = zip_get xs ys z.1 i x e

  pub zip_sum : (f : A → ℕ) (g : B → ℕ) → ((x : A) (y : B) → R x y → f x ≡ g y) → (xs : List A) (ys : List B) → AllZip R xs ys → sum_by f xs ≡ sum_by g ys
  zip_sum f g same [] [] z = refl
  zip_sum f g same [] (y ∷ ys) z = absurd z
  zip_sum f g same (x ∷ xs) [] z = absurd z
  zip_sum f g same (x ∷ xs) (y ∷ ys) z =
      sum_by-cons f x xs ∙ (ap (λ n. n + sum_by f xs) (same x y z.0) ∙ (ap (λ n. g y + n) (zip_sum f g same xs ys z.1) ∙ sym (sum_by-cons g y ys)))

  -- tests that agree
  module _ (p : A → Bool) (q : B → Bool) (same : (x : A) (y : B) → R x y → p x ≡ q y) where
    pub zip_count : (xs : List A) (ys : List B) → AllZip R xs ys → count_by p xs ≡ count_by q ys
    zip_count xs ys z = zip_sum (λ x. cond (p x) 1 0) (λ y. cond (q y) 1 0) (λ x y r. ap (λ (b : Bool). cond b 1 0) (same x y r)) xs ys z

    pub zip_any : (xs : List A) (ys : List B) → AllZip R xs ys → list_any p xs ≡ list_any q ys
    zip_any [] [] z = refl
    zip_any [] (y ∷ ys) z = absurd z
    zip_any (x ∷ xs) [] z = absurd z
    zip_any (x ∷ xs) (y ∷ ys) z = ap (λ (b : Bool). b || list_any p xs) (same x y z.0) ∙ ap (λ (b : Bool). q y || b) (zip_any xs ys z.1)

    pub zip_filter : (xs : List A) (ys : List B) → AllZip R xs ys → AllZip R (filter p xs) (filter q ys)
    zip_filter [] [] z = z
    zip_filter [] (y ∷ ys) z = absurd z
    zip_filter (x ∷ xs) [] z = absurd z
    zip_filter (x ∷ xs) (y ∷ ys) z =
        let rest = zip_filter xs ys z.1 in
        let agree = same x y z.0 in
        elim (cases_Bool (p x)) [
          | inl good ↦ rw (cond-true (p x) (x ∷ filter p xs) (filter p xs) good, cond-true (q y) (y ∷ filter q ys) (filter q ys) (sym agree ∙ good)) (z.0, rest)
          | inr bad ↦ rw (cond-false (p x) (x ∷ filter p xs) (filter p xs) bad, cond-false (q y) (y ∷ filter q ys) (filter q ys) (sym agree ∙ bad)) rest
        ]

  -- lists joined end to end
  pub zip_append : (xs : List A) (ys : List B) (us : List A) (vs : List B) → AllZip R xs ys → AllZip R us vs → AllZip R (xs ++ us) (ys ++ vs)
  zip_append [] [] us vs z w = w
  zip_append [] (y ∷ ys) us vs z w = absurd z
  zip_append (x ∷ xs) [] us vs z w = absurd z
  zip_append (x ∷ xs) (y ∷ ys) us vs z w = (z.0, zip_append xs ys us vs z.1 w)

  pub zip_join : {C D : Type 0} (Q : C → D → Type 0) (f : C → List A) (g : D → List B) → ((c : C) (d : D) → Q c d → AllZip R (f c) (g d)) → (cs : List C) (ds : List D) → AllZip Q cs ds → AllZip R (flat_map f cs) (flat_map g ds)
  zip_join Q f g each [] [] z = tt
  zip_join Q f g each [] (d ∷ ds) z = absurd z
  zip_join Q f g each (c ∷ cs) [] z = absurd z
  zip_join Q f g each (c ∷ cs) (d ∷ ds) z = zip_append (f c) (g d) (flat_map f cs) (flat_map g ds) (each c d z.0) (zip_join Q f g each cs ds z.1)

  -- the marked ones, and the others
  zip_pairs : (marks : List Bool) (xs : List A) (ys : List B) → AllZip R xs ys → AllZip (λ (a : Bool × A) (b : Bool × B). (a.0 ≡ b.0) × R a.1 b.1) (zip marks xs) (zip marks ys)
  zip_pairs [] xs ys z = tt
  zip_pairs (m ∷ marks) [] [] z = tt
  zip_pairs (m ∷ marks) [] (y ∷ ys) z = absurd z
  zip_pairs (m ∷ marks) (x ∷ xs) [] z = absurd z
  zip_pairs (m ∷ marks) (x ∷ xs) (y ∷ ys) z = ((refl, z.0), zip_pairs marks xs ys z.1)

-- the second components
zip_seconds : {A B : Type 0} (R : A → B → Type 0) (xs : List (Bool × A)) (ys : List (Bool × B)) → AllZip (λ (a : Bool × A) (b : Bool × B). (a.0 ≡ b.0) × R a.1 b.1) xs ys → AllZip R (map (λ x. x.1) xs) (map (λ y. y.1) ys)
zip_seconds R [] [] z = tt
zip_seconds R [] (y ∷ ys) z = absurd z
zip_seconds R (x ∷ xs) [] z = absurd z
zip_seconds R (x ∷ xs) (y ∷ ys) z = (z.0.1, zip_seconds R xs ys z.1)

module _ {A B : Type 0} (R : A → B → Type 0) (marks : List Bool) (xs : List A) (ys : List B) (z : AllZip R xs ys) where
  pub zip_marked : AllZip R (marked marks xs) (marked marks ys)
  zip_marked = zip_seconds R (filter (λ (x : Bool × A). x.0) (zip marks xs)) (filter (λ (y : Bool × B). y.0) (zip marks ys))
      (zip_filter (λ (a : Bool × A) (b : Bool × B). (a.0 ≡ b.0) × R a.1 b.1) (λ (x : Bool × A). x.0) (λ (y : Bool × B). y.0) (λ x y r. r.0) (zip marks xs) (zip marks ys) (zip_pairs R marks xs ys z))

  pub zip_unmarked : AllZip R (unmarked marks xs) (unmarked marks ys)
  zip_unmarked = zip_seconds R (filter (λ (x : Bool × A). not x.0) (zip marks xs)) (filter (λ (y : Bool × B). not y.0) (zip marks ys))
      (zip_filter (λ (a : Bool × A) (b : Bool × B). (a.0 ≡ b.0) × R a.1 b.1) (λ (x : Bool × A). not x.0) (λ (y : Bool × B). not y.0) (λ x y r. ap not r.0) (zip marks xs) (zip marks ys) (zip_pairs R marks xs ys z))
