-- Two lists, index by index.
use Rattle.std.proofs.Common.{◌≡◌, List, [], ◌∷◌, length, arith, refl, ◌++◌, ℕ, zero, suc, ◌<◌, slice_get, Some, map, Result, Ok, IfOk, Err, sym, subst, inl, inr, Bool, filter, ◌∙◌, ap}
use Rattle.std.specs.List.{AllZip}
use Rattle.std.specs.Prelude.{MatchResult, Contains}
use Rattle.std.specs.declared.vec.Vec.{Vec}
use Rattle.std.proofs.lemmas.Bool.{cases_Bool, cond-true, cond-false}

pub zip_length : {A B : Type 0} (R : A → B → Type 0) (xs : List A) (ys : List B) → AllZip R xs ys → length xs ≡ length ys
zip_length R [] [] z = refl
zip_length R [] (b ∷ ys) z = absurd z
zip_length R (a ∷ xs) [] z = absurd z
zip_length R (a ∷ xs) (b ∷ ys) z = let e : length xs ≡ length ys = zip_length R xs ys z.1 in omega arith

pub zip_push : {A B : Type 0} (R : A → B → Type 0) (xs : List A) (ys : List B) (x : A) (y : B) → AllZip R xs ys → R x y → AllZip R (xs ++ x ∷ []) (ys ++ y ∷ [])
zip_push R [] [] x y z r = (r, tt)
zip_push R [] (b ∷ ys) x y z r = absurd z
zip_push R (a ∷ xs) [] x y z r = absurd z
zip_push R (a ∷ xs) (b ∷ ys) x y z r = (z.0, zip_push R xs ys x y z.1 r)

-- what stands at one place of two lists that are alike
pub zip_at : {A B : Type 0} (R : A → B → Type 0) (xs : List A) (ys : List B) (i : ℕ) → AllZip R xs ys → i < length xs → (x : A) × (y : B) × (slice_get xs i ≡ Some x) × (slice_get ys i ≡ Some y) × R x y
zip_at R [] [] i h lt = absurd (omega (arith, lt))
zip_at R [] (y ∷ ys) i h lt = absurd h
zip_at R (x ∷ xs) [] i h lt = absurd h
zip_at R (x ∷ xs) (y ∷ ys) zero h lt = (x, y, refl, refl, h.0)
zip_at R (x ∷ xs) (y ∷ ys) (suc i) h lt = zip_at R xs ys i h.1 (omega (arith, lt))

-- each result is a value, and the values are as asked
pub values_of : (E : Type 0) {X Y : Type 0} (R : X → Y → Type 0) (xs : List X) (ys : List Y) → AllZip (λ x (y : Result Y E). IfOk y (R x)) xs (map Ok ys) → AllZip R xs ys
values_of E R [] [] all = all
values_of E R [] (y ∷ ys) all = all
values_of E R (x ∷ xs) [] all = all
values_of E R (x ∷ xs) (y ∷ ys) all = (all.0, values_of E R xs ys all.1)

-- the collected values are as asked, where there is no error
pub collected : {X Y Z E : Type 0} (R : X → Y → Type 0) (xs : List X) (results : List (Result Y E)) (r : Result (Vec Y Z) E) → AllZip (λ x y. IfOk y (R x)) xs results
    → MatchResult r (λ v. (ys : List Y) × (results ≡ map Ok ys) × (v.items ≡ ys)) (λ e. Contains results (Err e)) → IfOk r (λ v. AllZip R xs v.items)
collected {X} {Y} {Z} {E} R xs results (Ok v) all (ys, are, is) =
    subst (AllZip R xs) (sym is) (values_of E R xs ys (subst (λ (l : List (Result Y E)). AllZip (λ x y. IfOk y (R x)) xs l) are all))
collected R xs results (Err e) all found = tt

pub zip_filter : {X Y : Type 0} (R : X → Y → Type 0) (p : X → Bool) (q : Y → Bool) → ((x : X) (y : Y) → R x y → p x ≡ q y) → (xs : List X) (ys : List Y) → AllZip R xs ys → AllZip R (filter p xs) (filter q ys)
zip_filter R p q same [] [] z = z
zip_filter R p q same [] (y ∷ ys) z = absurd z
zip_filter R p q same (x ∷ xs) [] z = absurd z
zip_filter R p q same (x ∷ xs) (y ∷ ys) z =
    let rest = zip_filter R p q same xs ys z.1 in
    let agree = same x y z.0 in
    elim (cases_Bool (p x)) [
      | inl good ↦ rw (cond-true (p x) (x ∷ filter p xs) (filter p xs) good, cond-true (q y) (y ∷ filter q ys) (filter q ys) (sym agree ∙ good)) (z.0, rest)
      | inr bad ↦ rw (cond-false (p x) (x ∷ filter p xs) (filter p xs) bad, cond-false (q y) (y ∷ filter q ys) (filter q ys) (sym agree ∙ bad)) rest
    ]

pub zip_mapped : {X Y Z : Type 0} (R : X → Y → Type 0) (f : X → Z) (g : Y → Z) → ((x : X) (y : Y) → R x y → f x ≡ g y) → (xs : List X) (ys : List Y) → AllZip R xs ys → map f xs ≡ map g ys
zip_mapped R f g same [] [] z = refl
zip_mapped R f g same [] (y ∷ ys) z = absurd z
zip_mapped R f g same (x ∷ xs) [] z = absurd z
zip_mapped R f g same (x ∷ xs) (y ∷ ys) z = ap (λ v. v ∷ map f xs) (same x y z.0) ∙ ap (λ l. g y ∷ l) (zip_mapped R f g same xs ys z.1)
