-- Two lists that are in a relation place by place.
use Rattle.std.proofs.Common.{◌≡◌, ℕ, List, [], ◌∷◌, ◌++◌, take, drop, refl, sym, ap, ap₂, ◌∙◌, subst}
use Rattle.std.proofs.lemmas.List.{take-append-drop}
use Rattle.std.specs.List.{AllZip}

-- two lists after two others
pub zip_append : {A B : Type 0} (R : A → B → Type 0) (xs us : List A) (ys vs : List B) → AllZip R xs ys → AllZip R us vs → AllZip R (xs ++ us) (ys ++ vs)
zip_append R [] us [] vs h r = r
zip_append R [] us (y ∷ ys) vs h r = absurd h
zip_append R (x ∷ xs) us [] vs h r = absurd h
zip_append R (x ∷ xs) us (y ∷ ys) vs h r = (h.0, zip_append R xs us ys vs h.1 r)

-- what the second list begins with, and what it ends with
pub record ZipParts {A B : Type 0} (R : A → B → Type 0) (xs : List A) (ys zs : List B) : Type 0 where
  pub front : List A
  pub back : List A
  pub joined : xs ≡ front ++ back
  pub early : AllZip R front ys
  pub late : AllZip R back zs

pub zip_parts : {A B : Type 0} (R : A → B → Type 0) (xs : List A) (ys zs : List B) → AllZip R xs (ys ++ zs) → ZipParts R xs ys zs
zip_parts R xs [] zs h = record { front = []; back = xs; joined = refl; early = tt; late = h }
zip_parts R [] (y ∷ ys) zs h = absurd h
zip_parts R (x ∷ xs) (y ∷ ys) zs h =
    let rest = zip_parts R xs ys zs h.1 in
    record { front = x ∷ rest.front; back = rest.back; joined = ap (λ l. x ∷ l) rest.joined; early = (h.0, rest.early); late = rest.late }

-- the first of each
pub record ZipHead {A B : Type 0} (R : A → B → Type 0) (xs : List A) (y : B) (ys : List B) : Type 0 where
  pub head : A
  pub rest : List A
  pub joined : xs ≡ head ∷ rest
  pub first : R head y
  pub later : AllZip R rest ys

pub zip_head : {A B : Type 0} (R : A → B → Type 0) (xs : List A) (y : B) (ys : List B) → AllZip R xs (y ∷ ys) → ZipHead R xs y ys
zip_head R [] y ys h = absurd h
zip_head R (x ∷ xs) y ys h = record { head = x; rest = xs; joined = refl; first = h.0; later = h.1 }

-- what a list was cut into
pub cut_joined : {X : Type 0} (xs front back : List X) (n : ℕ) → front ≡ take n xs → back ≡ drop n xs → front ++ back ≡ xs
cut_joined xs front back n f b = ap₂ (λ l m. l ++ m) f b ∙ take-append-drop n xs

pub zip_after : {A B : Type 0} (R : A → B → Type 0) (xs front back : List A) (ys zs both : List B) → front ++ back ≡ xs → AllZip R front ys → AllZip R back zs → both ≡ ys ++ zs → AllZip R xs both
zip_after R xs front back ys zs both joined early late is = subst (AllZip R xs) (sym is) (subst (λ l. AllZip R l (ys ++ zs)) joined (zip_append R front back ys zs early late))
