-- Lists in which each earlier element stands to each later one.
use Rattle.std.proofs.Common.{[], arith, ◌+◌, ◌-◌, ◌<◌, ◌≤◌, List, ◌++◌, length, get_or, refl, sym, subst, ⊎_elim, zero, suc, ◌∷◌, All}
use Rattle.std.specs.List.{AllPairs, Contains}
use Rattle.std.proofs.lemmas.Bool.{cases_lt}
use Rattle.std.proofs.lemmas.List.{get_or_append_left, get_or-append_right, length-append}
use Rattle.std.proofs.lemmas.List.Elements.{Contains-get_or}

pub AllPairs-nil : {X : Type 0} (R : X → X → Type 0) → AllPairs R []
AllPairs-nil R i j d l h = absurd (omega arith)

-- two lists, where R holds of each element of the first and each of the second
pub AllPairs-append : {X : Type 0} (R : X → X → Type 0) (xs ys : List X) → AllPairs R xs → AllPairs R ys → ((x y : X) → Contains xs x → Contains ys y → R x y) → AllPairs R (xs ++ ys)
AllPairs-append {X} R xs ys p q across i j d lt inside =
    let n : j < length xs + length ys = omega (arith, length-append xs ys) in
    ⊎_elim
    (λ (low : j < length xs). let m : i < length xs = omega arith in
    subst (λ v. R v (get_or (xs ++ ys) j d)) (sym (get_or_append_left xs ys d i m)) (subst (λ v. R (get_or xs i d) v) (sym (get_or_append_left xs ys d j low)) (p i j d lt low)))
    (λ (high : length xs ≤ j). let k : j - length xs < length ys = omega arith in let ej = get_or-append_right xs ys (length xs) j d refl high in
    subst (λ v. R (get_or (xs ++ ys) i d) v) (sym ej) (⊎_elim
    (λ (m : i < length xs). subst (λ v. R v (get_or ys (j - length xs) d)) (sym (get_or_append_left xs ys d i m)) (across (get_or xs i d) (get_or ys (j - length xs) d) (Contains-get_or xs i d m) (Contains-get_or ys (j - length xs) d k)))
    (λ (m : length xs ≤ i). subst (λ v. R v (get_or ys (j - length xs) d)) (sym (get_or-append_right xs ys (length xs) i d refl m)) (q (i - length xs) (j - length xs) d (omega arith) k))
    (cases_lt i (length xs))))
    (cases_lt j (length xs))

pub pairs_cons : {X : Type 0} (R : X → X → Type 0) (x : X) (xs : List X) → All (R x) xs → AllPairs R xs → AllPairs R (x ∷ xs)
pairs_cons R x xs first rest zero zero d l h = absurd (omega arith)
pairs_cons R x xs first rest zero (suc j) d l h = first j d (omega arith)
pairs_cons R x xs first rest (suc i) zero d l h = absurd (omega arith)
pairs_cons R x xs first rest (suc i) (suc j) d l h = rest i j d (omega arith) (omega arith)
