-- The part of a list from one index up to another.
use Rattle.std.proofs.Common.{◌≡◌, ℕ, zero, suc, ◌+◌, ◌-◌, ◌≤◌, List, [], ◌∷◌, ◌++◌, length, take, drop, slice_get, slice_range, Some, None, ap, ◌∙◌, arith}
use Rattle.std.proofs.Math.Seq.{take-add}
use Rattle.std.proofs.lemmas.List.{drop-drop, take_all}

-- two parts side by side
pub range_join : {X : Type 0} (xs : List X) (start middle end : ℕ) → start ≤ middle → middle ≤ end → slice_range xs start end ≡ slice_range xs start middle ++ slice_range xs middle end
range_join xs start middle end low high =
    let all : end - start ≡ (middle - start) + (end - middle) = omega arith in
    let at : start + (middle - start) ≡ middle = omega arith in
    ap (λ (n : ℕ). take n (drop start xs)) all ∙ take-add (middle - start) (end - middle) (drop start xs)
    ∙ ap (λ (l : List _). take (middle - start) (drop start xs) ++ take (end - middle) l) (drop-drop (middle - start) start xs ∙ ap (λ (n : ℕ). drop n xs) at)

one_there : {X : Type 0} (xs : List X) (i : ℕ) (x : X) → slice_get xs i ≡ Some x → take 1 (drop i xs) ≡ x ∷ []
one_there [] i x e = absurd (let n : None ≡ Some x = e in cc)
one_there (y ∷ ys) zero x e = let s : Some y ≡ Some x = e in let same : y ≡ x = cc in ap (λ (z : _). z ∷ []) same
one_there (y ∷ ys) (suc i) x e = one_there ys i x e

-- one element more
pub range_next : {X : Type 0} (xs : List X) (start i : ℕ) (x : X) → start ≤ i → slice_get xs i ≡ Some x → slice_range xs start (i + 1) ≡ slice_range xs start i ++ x ∷ []
range_next xs start i x low e =
    let one : (i + 1) - i ≡ 1 = omega arith in
    range_join xs start i (i + 1) low (omega arith) ∙ ap (λ (l : List _). slice_range xs start i ++ l) (ap (λ (n : ℕ). take n (drop i xs)) one ∙ one_there xs i x e)

pub range_none : {X : Type 0} (xs : List X) (start : ℕ) → slice_range xs start start ≡ []
range_none xs start = let none : start - start ≡ 0 = omega arith in ap (λ (n : ℕ). take n (drop start xs)) none

pub range_all : {X : Type 0} (xs : List X) (n : ℕ) → n ≡ length xs → slice_range xs 0 n ≡ xs
range_all xs n is = let all : n - 0 ≡ n = omega arith in ap (λ (m : ℕ). take m xs) all ∙ take_all n xs (omega arith)
