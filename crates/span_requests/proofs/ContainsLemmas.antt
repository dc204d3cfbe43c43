-- Elements of lists that are made of others.
use Rattle.std.proofs.Common.{◌≡◌, ℕ, zero, suc, ◌+◌, ◌<◌, List, [], ◌∷◌, Bool, true, false, cond, filter, length, get_or, refl, sym, ap, ◌∙◌, subst, arith}
use Rattle.std.specs.List.{Contains, flat_map, range_with_len}
use Rattle.std.proofs.lemmas.List.Elements.{Contains-append_left, Contains-append_right}
use Rattle.std.proofs.lemmas.List.FromFn.{get_or-range_with_len, length-range_with_len}

module _ {X : Type 0} where
  pub contains_head : (x : X) (xs : List X) → Contains (x ∷ xs) x
  contains_head x xs = (0, omega arith, refl)

  pub contains_tail : (y : X) (xs : List X) (x : X) → Contains xs x → Contains (y ∷ xs) x
  contains_tail y xs x h = (suc h.0, omega (arith, h.1), h.2)

  pub contains_filter : (p : X → Bool) (xs : List X) (x : X) → Contains xs x → p x ≡ true → Contains (filter p xs) x
  contains_filter p [] x h own = absurd (omega (arith, h.1))
  contains_filter p (y ∷ xs) x h own = by h.0 h.1 h.2 (λ k. contains_filter p xs x k own)
    where
      tail : (b : Bool) → Contains (filter p xs) x → Contains (cond b (y ∷ filter p xs) (filter p xs)) x
      tail true k = contains_tail y (filter p xs) x k
      tail false k = k

      by : (k : ℕ) → k < length (y ∷ xs) → get_or (y ∷ xs) k x ≡ x → (Contains xs x → Contains (filter p xs) x) → Contains (filter p (y ∷ xs)) x
      by zero lt e rest = subst (λ b. Contains (cond b (y ∷ filter p xs) (filter p xs)) x) (sym (ap p e ∙ own)) (subst (λ z. Contains (z ∷ filter p xs) x) (sym e) (contains_head x (filter p xs)))
      by (suc k) lt e rest = tail (p y) (rest (k, omega (arith, lt), e))

  pub contains_flat : {Y : Type 0} (f : Y → List X) (ys : List Y) (y : Y) (x : X) → Contains ys y → Contains (f y) x → Contains (flat_map f ys) x
  contains_flat f [] y x h own = absurd (omega (arith, h.1))
  contains_flat {Y} f (z ∷ ys) y x h own = by h.0 h.1 h.2 (λ k. contains_flat f ys y x k own)
    where
      by : (k : ℕ) → k < length (z ∷ ys) → get_or (z ∷ ys) k y ≡ y → (Contains ys y → Contains (flat_map f ys) x) → Contains (flat_map f (z ∷ ys)) x
      by zero lt e rest = Contains-append_left (f z) (flat_map f ys) x (subst (λ (v : Y). Contains (f v) x) (sym e) own)
      by (suc k) lt e rest = Contains-append_right (f z) (flat_map f ys) x (rest (k, omega (arith, lt), e))

pub contains_range : (n x : ℕ) → x < n → Contains (range_with_len 0 n) x
contains_range n x lt = (x, omega (arith, lt, length-range_with_len 0 n), get_or-range_with_len 0 n x x lt ∙ (let e : 0 + x ≡ x = omega arith in e))
