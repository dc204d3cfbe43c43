-- Lists of one clock or trace more, and two lists place by place.
use Rattle.std.proofs.Common.{◌≡◌, ℕ, zero, suc, ◌+◌, ◌<◌, List, [], ◌∷◌, ◌++◌, Bool, cond, length, get_or, map, All, ap, ◌∙◌, sym, refl, arith}
use Rattle.std.specs.Prelude.{count_by}
use Rattle.std.specs.List.{AllZip, flat_map}
use Rattle.std.proofs.lemmas.List.Elements.{All-tail, All-head}
use Rattle.std.proofs.lemmas.List.Sums.{sum_by-cons}
use Rattle.std.proofs.lemmas.List.Concat.{flat_map-cons}

-- what holds place by place holds at a place
pub zip_at : {A B : Type 0} (R : A → B → Type 0) (xs : List A) (ys : List B) (i : ℕ) (d : A) (e : B) → AllZip R xs ys → i < length xs → R (get_or xs i d) (get_or ys i e)
zip_at R [] ys i d e h lt = absurd (omega arith)
zip_at R (x ∷ xs) [] i d e h lt = absurd h
zip_at R (x ∷ xs) (y ∷ ys) zero d e h lt = h.0
zip_at R (x ∷ xs) (y ∷ ys) (suc i) d e h lt = zip_at R xs ys i d e h.1 (omega arith)

pub zip_long : {A B : Type 0} (R : A → B → Type 0) (xs : List A) (ys : List B) → AllZip R xs ys → length xs ≡ length ys
zip_long R [] [] h = refl
zip_long R [] (y ∷ ys) h = absurd h
zip_long R (x ∷ xs) [] h = absurd h
zip_long R (x ∷ xs) (y ∷ ys) h = ap suc (zip_long R xs ys h.1)

-- where two relations are functions that agree, so are lists of what they give
pub zip_once : {A B : Type 0} (R : A → B → Type 0) (one : (x : A) (y z : B) → R x y → R x z → y ≡ z) (xs : List A) (ys zs : List B) → AllZip R xs ys → AllZip R xs zs → ys ≡ zs
zip_once R one [] [] [] h k = refl
zip_once R one [] [] (z ∷ zs) h k = absurd k
zip_once R one [] (y ∷ ys) zs h k = absurd h
zip_once R one (x ∷ xs) [] zs h k = absurd h
zip_once R one (x ∷ xs) (y ∷ ys) [] h k = absurd k
zip_once R one (x ∷ xs) (y ∷ ys) (z ∷ zs) h k = λ i. one x y z h.0 k.0 i ∷ zip_once R one xs ys zs h.1 k.1 i

-- as many pass one test as pass the other
pub count_same : {X Y : Type 0} (p : X → Bool) (q : Y → Bool) (f : Y → X) (ys : List Y) → All (λ (y : Y). p (f y) ≡ q y) ys → count_by p (map f ys) ≡ count_by q ys
count_same p q f [] h = refl
count_same {X} {Y} p q f (y ∷ ys) h =
    sum_by-cons (λ x. cond (p x) 1 0) (f y) (map f ys)
    ∙ ap (λ b. cond b 1 0 + count_by p (map f ys)) (All-head (λ (z : Y). p (f z) ≡ q z) y ys h)
    ∙ ap (λ n. cond (q y) 1 0 + n) (count_same p q f ys (All-tail (λ (z : Y). p (f z) ≡ q z) y ys h))
    ∙ sym (sum_by-cons (λ z. cond (q z) 1 0) y ys)

-- the same elements come of each
pub parts_same : {X Y A : Type 0} (p : X → List A) (q : Y → List A) (f : Y → X) (ys : List Y) → All (λ (y : Y). p (f y) ≡ q y) ys → flat_map p (map f ys) ≡ flat_map q ys
parts_same p q f [] h = refl
parts_same {X} {Y} p q f (y ∷ ys) h =
    flat_map-cons p (f y) (map f ys)
    ∙ (λ i. All-head (λ (z : Y). p (f z) ≡ q z) y ys h i ++ parts_same p q f ys (All-tail (λ (z : Y). p (f z) ≡ q z) y ys h) i)
    ∙ sym (flat_map-cons q y ys)
