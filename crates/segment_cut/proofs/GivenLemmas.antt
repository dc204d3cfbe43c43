-- The element that a name gives is its element.
use Rattle.std.proofs.Common.{◌≡◌, ℕ, ◌+◌, ◌<◌, ◌≤◌, List, [], ◌∷◌, ◌++◌, length, get_or, drop, Contains, arith, refl, sym, ap, ◌∙◌, subst, ⊎_elim}
use Rattle.std.specs.List.{after_first, before_first, position_or_len}
use Rattle.std.proofs.lemmas.Bool.{cases_lt, eqb-true, false≢true}
use Rattle.std.proofs.lemmas.List.{drop_all, get_or-take, length-take}
use Rattle.std.proofs.lemmas.List.Sums.{fails_before_first, passes_at_first, split_at_first}
use Rattle.segment_cut.specs.Elements.{at_sign, IsElementOf, HasElement, element_in, is_at_sign, unless_empty}
use Rattle.segment_cut.proofs.UniqueListLemmas.{one_rest}

-- no character before the first `@` is one
not_before : (name : List ℕ) (k : ℕ) → k < position_or_len is_at_sign name → get_or name k at_sign ≡ at_sign → ⊥
not_before name k lt is = false≢true (sym (fails_before_first is_at_sign name k at_sign lt) ∙ ap is_at_sign is)

none_before : (name : List ℕ) → Contains (before_first is_at_sign name) at_sign → ⊥
none_before name (k, lt, is) =
    let long = length-take (position_or_len is_at_sign name) name in
    let below : k < position_or_len is_at_sign name = omega arith in
    not_before name k below (sym (get_or-take (position_or_len is_at_sign name) name k at_sign below) ∙ is)

-- where the first `@` stands
at_first : (name : List ℕ) → position_or_len is_at_sign name < length name → name ≡ before_first is_at_sign name ++ at_sign ∷ after_first is_at_sign name
at_first name lt =
    let e : get_or name (position_or_len is_at_sign name) 0 ≡ at_sign = eqb-true (get_or name (position_or_len is_at_sign name) 0) at_sign (passes_at_first is_at_sign name 0 lt) in
    subst (λ (c : ℕ). name ≡ before_first is_at_sign name ++ c ∷ after_first is_at_sign name) e (split_at_first is_at_sign name 0 lt)

-- a name with an `@` has what stands after it
after_it : (name rest : List ℕ) → name ≡ before_first is_at_sign name ++ at_sign ∷ rest → HasElement name (unless_empty rest)
after_it name [] is = λ element e.
    let same : [] ≡ element = one_rest (before_first is_at_sign name) e.0 [] element (sym is ∙ e.1) (none_before name) e.2 in
    let none : length element ≡ 0 = sym (ap (λ (bs : List ℕ). length bs) same) in
    let some : 0 < length element = e.3 in
    omega arith
after_it name (c ∷ rest) is = (before_first is_at_sign name, is, none_before name, omega arith)

-- a name without one has no element
no_sign : (name : List ℕ) → length name ≤ position_or_len is_at_sign name → (element : List ℕ) → IsElementOf name element → ⊥
no_sign name none element (front, is, apart, some) =
    let long : length name ≡ length (front ++ at_sign ∷ element) = ap (λ (bs : List ℕ). length bs) is in
    not_before name (length front) (below front element long) (ap (λ (bs : List ℕ). get_or bs (length front) at_sign) is ∙ at front)
  where
    at : (xs : List ℕ) → get_or (xs ++ at_sign ∷ element) (length xs) at_sign ≡ at_sign
    at [] = refl
    at (x ∷ xs) = at xs

    count : (xs ys : List ℕ) → length xs < length (xs ++ at_sign ∷ ys)
    count [] ys = omega arith
    count (x ∷ xs) ys = let h = count xs ys in omega arith

    below : (xs ys : List ℕ) → length name ≡ length (xs ++ at_sign ∷ ys) → length xs < position_or_len is_at_sign name
    below xs ys e = let h = count xs ys in omega arith

pub given_element : (name : List ℕ) → HasElement name (element_in name)
given_element name = ⊎_elim
    (λ (some : position_or_len is_at_sign name < length name). after_it name (after_first is_at_sign name) (at_first name some))
    (λ (none : length name ≤ position_or_len is_at_sign name).
    let e : drop (position_or_len is_at_sign name + 1) name ≡ [] = drop_all (position_or_len is_at_sign name + 1) name (omega arith) in
    subst (λ (rest : List ℕ). HasElement name (unless_empty rest)) (sym e) (no_sign name none))
    (cases_lt (position_or_len is_at_sign name) (length name))
