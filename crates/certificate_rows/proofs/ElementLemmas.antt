-- The elements of lists that are made of others.
use Rattle.std.proofs.Common.{◌≡◌, ℕ, zero, suc, ◌<◌, Bool, true, Some, List, [], ◌∷◌, ◌++◌, length, get_or, take, map, filter, refl, sym, ap, ◌∙◌, subst, inl, inr, ⊎_elim, arith}
use Rattle.std.specs.List.{AllPairs, AllZip, Contains, slice_get}
use Rattle.std.proofs.lemmas.Bool.{cases_Bool, false≢true}
use Rattle.std.proofs.lemmas.List.{get_or-map, get_or-take, length-map, length-take}
use Rattle.std.proofs.lemmas.Option.{slice_get_within, slice_get-get_or, get_or_from_slice_get}
use Rattle.trace_types.proofs.ListingLemmas.{Contains-nil, Contains-cons, Contains-here, cons_cases}
use Rattle.trace_types.proofs.PairLemmas.{AllPairs-nil}
use Rattle.day_partitions.proofs.FilterLemmas.{filter_yes, filter_no}

module _ {X : Type 0} where
  pub get_from_Contains : (xs : List X) (x : X) → Contains xs x → (k : ℕ) × (k < length xs) × (slice_get xs k ≡ Some x)
  get_from_Contains xs x c = (c.0, c.1, slice_get-get_or xs c.0 x c.1 ∙ ap (λ (v : X). Some v) c.2)

  -- ---- pairs of elements
  -- an element before place i stands to the one at i as any earlier to any later one
  pub before_place : (R : X → X → Type 0) (xs : List X) → AllPairs R xs → (i : ℕ) (x y : X) → slice_get xs i ≡ Some x → Contains (take i xs) y → R y x
  before_place R xs all i x y here c =
      let few : c.0 < length (take i xs) = c.1 in
      let early : c.0 < i = omega (arith, length-take i xs) in
      let lt = slice_get_within xs i x here in
      let first : get_or xs c.0 y ≡ y = sym (get_or-take i xs c.0 y early) ∙ c.2 in
      subst (λ v. R v x) first (subst (λ v. R (get_or xs c.0 y) v) (get_or_from_slice_get xs i x y here) (all c.0 i y early lt))

  -- what stands in the first elements stands at a place before
  pub get_from_take : (xs : List X) (i : ℕ) (y : X) → Contains (take i xs) y → (k : ℕ) × (k < i) × (slice_get xs k ≡ Some y)
  get_from_take xs i y c =
      let few : c.0 < length (take i xs) = c.1 in
      let early : c.0 < i = omega (arith, length-take i xs) in
      let within : c.0 < length xs = omega (arith, length-take i xs) in
      (c.0, early, slice_get-get_or xs c.0 y within ∙ ap (λ (v : X). Some v) (sym (get_or-take i xs c.0 y early) ∙ c.2))

  -- ---- filters
  -- what passes a test is kept, and what is kept passes it
  pub Contains-kept : (p : X → Bool) (xs : List X) (x : X) → Contains xs x → p x ≡ true → Contains (filter p xs) x
  Contains-kept p [] x c e = c
  Contains-kept p (y ∷ ys) x c e = elim (cases_Bool (p y)) [
    | inl good ↦ rw (filter_yes p y ys good) (⊎_elim (λ (h : y ≡ x). Contains-here y (filter p ys) x h) (λ (d : Contains ys x). Contains-cons y (filter p ys) x (Contains-kept p ys x d e)) (cons_cases y ys x c))
    | inr bad ↦ rw (filter_no p y ys bad) (⊎_elim (λ (h : y ≡ x). absurd (false≢true (sym bad ∙ (ap p h ∙ e)))) (λ (d : Contains ys x). Contains-kept p ys x d e) (cons_cases y ys x c))
  ]

  pub kept_Contains : (p : X → Bool) (xs : List X) (x : X) → Contains (filter p xs) x → Contains xs x × (p x ≡ true)
  kept_Contains p [] x c = absurd (Contains-nil x c)
  kept_Contains p (y ∷ ys) x c = elim (cases_Bool (p y)) [
    | inl good ↦
        let d : Contains (y ∷ filter p ys) x = subst (λ l. Contains l x) (filter_yes p y ys good) c in
        ⊎_elim (λ (h : y ≡ x). (Contains-here y ys x h, sym (ap p h) ∙ good)) (λ (r : Contains (filter p ys) x). let k = kept_Contains p ys x r in (Contains-cons y ys x k.0, k.1)) (cons_cases y (filter p ys) x d)
    | inr bad ↦ let k = kept_Contains p ys x (subst (λ l. Contains l x) (filter_no p y ys bad) c) in (Contains-cons y ys x k.0, k.1)
  ]

-- ---- maps, and lists joined end to end
pub pairs_map : {X Y : Type 0} (f : X → Y) (R : Y → Y → Type 0) (xs : List X) → AllPairs (λ x y. R (f x) (f y)) xs → AllPairs R (map f xs)
pairs_map f R [] p = AllPairs-nil R
pairs_map {X} {Y} f R (x ∷ xs) p = λ i j d lt inside.
    let within : j < length (x ∷ xs) = omega (arith, length-map (x ∷ xs) f) in
    let ei = get_or-map f (x ∷ xs) i x d (omega arith) in
    let ej = get_or-map f (x ∷ xs) j x d within in
    subst (λ (v : Y). R v (get_or (map f (x ∷ xs)) j d)) (sym ei) (subst (λ (v : Y). R (f (get_or (x ∷ xs) i x)) v) (sym ej) (p i j x lt within))

-- ---- two lists, index by index
module _ {A B : Type 0} (R : A → B → Type 0) where
  zip_right_at : (xs : List A) (ys : List B) → AllZip R xs ys → (y : B) (k : ℕ) → k < length ys → get_or ys k y ≡ y → (x : A) × Contains xs x × R x y
  zip_right_at xs [] z y k lt e = absurd (omega arith)
  zip_right_at [] (b ∷ ys) z y k lt e = absurd z
  zip_right_at (a ∷ xs) (b ∷ ys) z y zero lt e = (a, (0, omega arith, refl), subst (λ v. R a v) e z.0)
  zip_right_at (a ∷ xs) (b ∷ ys) z y (suc k) lt e = let r = zip_right_at xs ys z.1 y k (omega arith) e in (r.0, Contains-cons a xs r.0 r.1, r.2)

  pub zip_right : (xs : List A) (ys : List B) → AllZip R xs ys → (y : B) → Contains ys y → (x : A) × Contains xs x × R x y
  zip_right xs ys z y c = zip_right_at xs ys z y c.0 c.1 c.2

  -- what stands at one place of both
  pub zip_get_left : (xs : List A) (ys : List B) (i : ℕ) (x : A) → AllZip R xs ys → slice_get xs i ≡ Some x → (y : B) × (slice_get ys i ≡ Some y) × R x y
  zip_get_left [] ys i x z e = let lt = slice_get_within [] i x e in absurd (omega arith)
  zip_get_left (a ∷ xs) [] i x z e = absurd z
  zip_get_left (a ∷ xs) (b ∷ ys) zero x z e = (b, refl, subst (λ v. R v b) (some_is a x e) z.0)
    where
      some_is : (u v : A) → Some u ≡ Some v → u ≡ v
      some_is u v e = cc
  zip_get_left (a ∷ xs) (b ∷ ys) (suc i) x z e = zip_get_left xs ys i x z.1 e

  pub zip_get_right : (xs : List A) (ys : List B) (i : ℕ) (y : B) → AllZip R xs ys → slice_get ys i ≡ Some y → (x : A) × (slice_get xs i ≡ Some x) × R x y
  zip_get_right xs [] i y z e = let lt = slice_get_within [] i y e in absurd (omega arith)
  zip_get_right [] (b ∷ ys) i y z e = absurd z
  zip_get_right (a ∷ xs) (b ∷ ys) zero y z e = (a, refl, subst (λ v. R a v) (some_is b y e) z.0)
    where
      some_is : (u v : B) → Some u ≡ Some v → u ≡ v
      some_is u v e = cc
  zip_get_right (a ∷ xs) (b ∷ ys) (suc i) y z e = zip_get_right xs ys i y z.1 e

  -- one of the lists is split at an element
  pub record IsSplit (front back : List A) (x : A) (ys : List B) : Type 0 where
    pub before : List B
    pub here : B
    pub after : List B
    pub split : ys ≡ before ++ here ∷ after
    pub first : AllZip R front before
    pub is : R x here
    pub last : AllZip R back after

  pub zip_split : (front : List A) (x : A) (back : List A) (ys : List B) → AllZip R (front ++ x ∷ back) ys → IsSplit front back x ys
  zip_split [] x back [] z = absurd z
  zip_split [] x back (y ∷ ys) z = record { before = []; here = y; after = ys; split = refl; first = tt; is = z.0; last = z.1 }
  zip_split (a ∷ front) x back [] z = absurd z
  zip_split (a ∷ front) x back (y ∷ ys) z =
      let s = zip_split front x back ys z.1 in
      record { before = y ∷ s.before; here = s.here; after = s.after; split = ap (λ l. y ∷ l) s.split; first = (z.0, s.first); is = s.is; last = s.last }
