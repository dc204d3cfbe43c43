-- The numbers that stand below none are those that walks begin with, in their order.
use Rattle.std.proofs.Common.{◌≡◌, inl, inr, ℕ, zero, suc, ◌+◌, ◌<◌, List, [], ◌∷◌, ◌++◌, Bool, true, false, cond, length, map, filter, flat_map, Option, Some, None, is_none, get_or, refl, ap, ◌∙◌, arith}
use Rattle.std.specs.List.{range_with_len}
use Rattle.std.proofs.lemmas.List.Elements.{filter-append}
use Rattle.call_trees.proofs.GroupLemmas.{groups_length}
use Rattle.call_trees.specs.Below.{below_all, below_one, is_number}
use Rattle.call_trees.specs.Walks.{walk_from, walk_through}
use Rattle.span_laws.proofs.ApartLemmas.{In, in_filter}

-- ---- lists

pub filter_map_is : {X Y : Type 0} (p : Y → Bool) (f : X → Y) (xs : List X) → filter p (map f xs) ≡ map f (filter (λ x. p (f x)) xs)
filter_map_is p f [] = refl
filter_map_is p f (x ∷ xs) = by (p (f x)) (filter_map_is p f xs)
  where
    by : (b : Bool) → filter p (map f xs) ≡ map f (filter (λ y. p (f y)) xs) → cond b (f x ∷ filter p (map f xs)) (filter p (map f xs)) ≡ map f (cond b (x ∷ filter (λ y. p (f y)) xs) (filter (λ y. p (f y)) xs))
    by true e = ap (λ l. f x ∷ l) e
    by false e = e

shifted : {X : Type 0} (g : ℕ → X) (a n : ℕ) → map g (range_with_len (a + 1) n) ≡ map (λ i. g (suc i)) (range_with_len a n)
shifted g a zero = refl
shifted g a (suc n) = let e : a + 1 ≡ suc a = omega arith in (λ i. g (e i) ∷ shifted g (a + 1) n i)

-- a list is what stands at all its indexes
pub map_at : {X : Type 0} (xs : List X) (d : X) → map (λ i. get_or xs i d) (range_with_len 0 (length xs)) ≡ xs
map_at [] d = refl
map_at (x ∷ xs) d = ap (λ l. x ∷ l) (shifted (λ i. get_or (x ∷ xs) i d) 0 (length xs) ∙ map_at xs d)

in_at_map : {X : Type 0} (f : X → List ℕ) (xs : List X) (k y : ℕ) → In (get_or (map f xs) k []) y → (x : X) × In (f x) y
in_at_map f [] k y h = absurd h
in_at_map f (x ∷ xs) zero y h = (x, h)
in_at_map f (x ∷ xs) (suc k) y h = in_at_map f xs k y h

-- ---- walks

module _ (above : List (Option ℕ)) (order : List ℕ) where
  -- the number stands below none
  abbrev pub is_first : ℕ → Bool
  is_first n = is_none (get_or above n None)

  abbrev below : List (List ℕ)
  below = below_all above order

  below_is : (x y : ℕ) → In (get_or below x []) y → is_first y ≡ false
  below_is x y h =
      let p = in_at_map (below_one above order) (range_with_len 0 (length above)) x y h in
      has p.0 (get_or above y None) (in_filter (λ j. is_number p.0 (get_or above j None)) order y p.1).1
    where
      has : (z : ℕ) (o : Option ℕ) → is_number z o ≡ true → is_none o ≡ false
      has z None e = let w : false ≡ true = e in cc
      has z (Some c) e = refl

  none_flat : (f : ℕ → List ℕ) (ys : List ℕ) → ((y : ℕ) → In ys y → filter is_first (f y) ≡ []) → filter is_first (flat_map f ys) ≡ []
  none_flat f [] g = refl
  none_flat f (y ∷ ys) g = filter-append is_first (f y) (flat_map f ys) ∙ (λ i. g y (inl refl) i ++ none_flat f ys (λ z h. g z (inr h)) i)

  none_first : (n x : ℕ) → is_first x ≡ false → filter is_first (walk_from below n x) ≡ []
  none_first zero x e = refl
  none_first (suc n) x e =
      let rest : List ℕ = filter is_first (flat_map (walk_from below n) (get_or below x [])) in
      ap (λ b. cond b (x ∷ rest) rest) e ∙ none_flat (walk_from below n) (get_or below x []) (λ y h. none_first n y (below_is x y h))

  one_first : (n x : ℕ) → is_first x ≡ true → filter is_first (walk_from below (suc n) x) ≡ x ∷ []
  one_first n x e =
      let rest : List ℕ = filter is_first (flat_map (walk_from below n) (get_or below x [])) in
      ap (λ b. cond b (x ∷ rest) rest) e ∙ ap (λ l. x ∷ l) (none_flat (walk_from below n) (get_or below x []) (λ y h. none_first n y (below_is x y h)))

  firsts_from : (n : ℕ) (roots : List ℕ) → ((x : ℕ) → In roots x → is_first x ≡ true) → filter is_first (flat_map (walk_from below (suc n)) roots) ≡ roots
  firsts_from n [] f = refl
  firsts_from n (x ∷ roots) f = filter-append is_first (walk_from below (suc n) x) (flat_map (walk_from below (suc n)) roots) ∙ (λ i. one_first n x (f x (inl refl)) i ++ firsts_from n roots (λ z h. f z (inr h)) i)

  pub firsts_are : (roots : List ℕ) → ((x : ℕ) → In roots x → is_first x ≡ true) → ((x : ℕ) → In roots x → x < length above) → filter is_first (walk_through below roots) ≡ roots
  firsts_are [] f w = refl
  firsts_are (x ∷ roots) f w = by (length below) (groups_length above order)
    where
      by : (n : ℕ) → n ≡ length above → filter is_first (flat_map (walk_from below n) (x ∷ roots)) ≡ x ∷ roots
      by zero q = let l = w x (inl refl) in absurd (omega (arith, q, l))
      by (suc n) q = firsts_from n (x ∷ roots) f
