-- The elements of lists that are made of others.
use Rattle.std.proofs.Common.{◌≡◌, ℕ, zero, suc, ◌<◌, List, [], ◌∷◌, length, get_or, map, refl, ap, ◌∙◌, subst, arith}
use Rattle.std.specs.List.{Contains, AllZip}
use Rattle.trace_types.proofs.ListingLemmas.{Contains-cons}

-- ---- maps, and lists joined end to end
-- ---- two lists, index by index
pub map_zip : {A B C : Type 0} (f : A → C) (g : B → C) (R : A → B → Type 0) → ((x : A) (y : B) → R x y → f x ≡ g y) → (xs : List A) (ys : List B) → AllZip R xs ys → map f xs ≡ map g ys
map_zip f g R same [] [] z = refl
map_zip f g R same [] (y ∷ ys) z = absurd z
map_zip f g R same (x ∷ xs) [] z = absurd z
map_zip {C = C} f g R same (x ∷ xs) (y ∷ ys) z = ap (λ (v : C). v ∷ map f xs) (same x y z.0) ∙ ap (λ (l : List C). g y ∷ l) (map_zip f g R same xs ys z.1)

zip_right_at : {A B : Type 0} (R : A → B → Type 0) (xs : List A) (ys : List B) → AllZip R xs ys → (y : B) (k : ℕ) → k < length ys → get_or ys k y ≡ y → (x : A) × Contains xs x × R x y
zip_right_at R xs [] z y k lt e = absurd (omega arith)
zip_right_at R [] (b ∷ ys) z y k lt e = absurd z
zip_right_at R (a ∷ xs) (b ∷ ys) z y zero lt e = (a, (0, omega arith, refl), subst (λ v. R a v) e z.0)
zip_right_at R (a ∷ xs) (b ∷ ys) z y (suc k) lt e = let r = zip_right_at R xs ys z.1 y k (omega arith) e in (r.0, Contains-cons a xs r.0 r.1, r.2)

pub zip_right : {A B : Type 0} (R : A → B → Type 0) (xs : List A) (ys : List B) → AllZip R xs ys → (y : B) → Contains ys y → (x : A) × Contains xs x × R x y
zip_right R xs ys z y c = zip_right_at R xs ys z y c.0 c.1 c.2
