-- Numbers that lists have.
use Rattle.std.proofs.Common.{◌≡◌, ◌⊎◌, inl, inr, ℕ, zero, suc, ◌+◌, ◌<◌, ◌||◌, List, [], ◌∷◌, ◌++◌, Bool, true, false, length, get_or, filter, refl, sym, ap, ◌∙◌, subst, true≢false, arith}
use Rattle.std.specs.Prelude.{Contains, IsPermutation, if◌then◌else◌}
use Rattle.std.specs.List.{flat_map, list_any, range_with_len}
use Rattle.std.proofs.lemmas.List.Elements.{All-contains, All-contains_itself}
use Rattle.std.proofs.lemmas.List.FromFn.{get_or-range_with_len, length-range_with_len}
use Rattle.std.proofs.lemmas.List.Sorted.{All-permutation, IsPermutation-sym}

-- the list has the number
abbrev pub In : ℕ → List ℕ → Type 0
In x [] = ⊥
In x (y ∷ ys) = (y ≡ x) ⊎ In x ys

pub in-left : (x : ℕ) (xs ys : List ℕ) → In x xs → In x (xs ++ ys)
in-left x [] ys h = absurd h
in-left x (z ∷ xs) ys (inl e) = inl e
in-left x (z ∷ xs) ys (inr h) = inr (in-left x xs ys h)

pub in-right : (x : ℕ) (xs ys : List ℕ) → In x ys → In x (xs ++ ys)
in-right x [] ys h = h
in-right x (z ∷ xs) ys h = inr (in-right x xs ys h)

pub in-cases : (x : ℕ) (xs ys : List ℕ) → In x (xs ++ ys) → In x xs ⊎ In x ys
in-cases x [] ys h = inr h
in-cases x (z ∷ xs) ys (inl e) = inl (inl e)
in-cases x (z ∷ xs) ys (inr h) = by (in-cases x xs ys h)
  where
    by : In x xs ⊎ In x ys → In x (z ∷ xs) ⊎ In x ys
    by (inl g) = inl (inr g)
    by (inr g) = inr g

pub in-flat : (f : ℕ → List ℕ) (xs : List ℕ) (y x : ℕ) → In y xs → In x (f y) → In x (flat_map f xs)
in-flat f [] y x h g = absurd h
in-flat f (z ∷ xs) y x (inl e) g = in-left x (f z) (flat_map f xs) (subst (λ w. In x (f w)) (sym e) g)
in-flat f (z ∷ xs) y x (inr h) g = in-right x (f z) (flat_map f xs) (in-flat f xs y x h g)

pub flat-in : (f : ℕ → List ℕ) (xs : List ℕ) (x : ℕ) → In x (flat_map f xs) → (y : ℕ) × In y xs × In x (f y)
flat-in f [] x h = absurd h
flat-in f (z ∷ xs) x h = by (in-cases x (f z) (flat_map f xs) h) (flat-in f xs x)
  where
    by : In x (f z) ⊎ In x (flat_map f xs) → (In x (flat_map f xs) → (y : ℕ) × In y xs × In x (f y)) → (y : ℕ) × In y (z ∷ xs) × In x (f y)
    by (inl g) rest = (z, inl refl, g)
    by (inr g) rest = let w = rest g in (w.0, inr w.1, w.2)

pub in-filter : (p : ℕ → Bool) (xs : List ℕ) (x : ℕ) → In x xs → p x ≡ true → In x (filter p xs)
in-filter p [] x h e = absurd h
in-filter p (z ∷ xs) x h e = by (p z) refl h (λ g. in-filter p xs x g e)
  where
    by : (b : Bool) → p z ≡ b → In x (z ∷ xs) → (In x xs → In x (filter p xs)) → In x (filter p (z ∷ xs))
    by true q (inl s) rest = rw q (inl s)
    by true q (inr g) rest = rw q (inr (rest g))
    by false q (inl s) rest = absurd (true≢false (sym e ∙ ap p (sym s) ∙ q))
    by false q (inr g) rest = rw q (rest g)

pub filter-in : (p : ℕ → Bool) (xs : List ℕ) (x : ℕ) → In x (filter p xs) → In x xs × (p x ≡ true)
filter-in p [] x h = absurd h
filter-in p (z ∷ xs) x h = by (p z) refl h (filter-in p xs x)
  where
    by : (b : Bool) → p z ≡ b → In x (if b then z ∷ filter p xs else filter p xs) → (In x (filter p xs) → In x xs × (p x ≡ true)) → In x (z ∷ xs) × (p x ≡ true)
    by true q (inl s) rest = (inl s, ap p (sym s) ∙ q)
    by true q (inr g) rest = let w = rest g in (inr w.0, w.1)
    by false q g rest = let w = rest g in (inr w.0, w.1)

pub in_from_contains : (xs : List ℕ) (x : ℕ) → Contains xs x → In x xs
in_from_contains xs x h = at xs h.0 h.1 h.2
  where
    at : (ys : List ℕ) (k : ℕ) → k < length ys → get_or ys k x ≡ x → In x ys
    at [] k lt e = absurd (omega (arith, lt))
    at (y ∷ ys) zero lt e = inl e
    at (y ∷ ys) (suc k) lt e = inr (at ys k (omega (arith, lt)) e)

pub in-range : (n x : ℕ) → x < n → Contains (range_with_len 0 n) x
in-range n x lt = (x, omega (arith, lt, length-range_with_len 0 n), get_or-range_with_len 0 n x x lt ∙ (let e : 0 + x ≡ x = omega arith in e))

pub in-permutation : (n x : ℕ) (order : List ℕ) → IsPermutation (range_with_len 0 n) order → x < n → In x order
in-permutation n x order moved lt =
    let all = All-permutation (Contains order) order (range_with_len 0 n) (IsPermutation-sym (range_with_len 0 n) order moved) (All-contains_itself order) in
    in_from_contains order x (All-contains (Contains order) (range_with_len 0 n) x all (in-range n x lt))

pub any_in : (p : ℕ → Bool) (xs : List ℕ) (x : ℕ) → In x xs → p x ≡ true → list_any p xs ≡ true
any_in p [] x h e = absurd h
any_in p (z ∷ xs) x (inl s) e = ap (λ b. b || list_any p xs) (ap p s ∙ e)
any_in p (z ∷ xs) x (inr h) e = right (p z) (list_any p xs) (any_in p xs x h e)
  where
    right : (a b : Bool) → b ≡ true → (a || b) ≡ true
    right true b g = refl
    right false b g = g
