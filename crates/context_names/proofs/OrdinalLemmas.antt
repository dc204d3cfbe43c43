-- Which of its like an element is.
use Rattle.std.proofs.Common.{◌≡◌, ◌⊎◌, inl, inr, ℕ, zero, suc, ◌+◌, ◌<◌, ◌≤◌, List, [], ◌∷◌, ◌++◌, All, Bool, true, cond, length, get_or, map, take, refl, sym, ap, ◌∙◌, append_assoc, arith}
use Rattle.std.specs.Prelude.{fold}
use Rattle.std.specs.List.{count_by}
use Rattle.std.proofs.lemmas.Bool.{cases_order}
use Rattle.std.proofs.lemmas.List.{length-take-le, map-append}
use Rattle.std.proofs.lemmas.List.Elements.{All-from_get_or}
use Rattle.std.proofs.lemmas.List.Sums.{count_by-le-length, sum_by-cons}
use Rattle.call_trees.specs.Ordinals.{ordinals_after, ordinals_of}

fold_map : {A X Y : Type 0} (f : X → Y) (g : A → Y → A) (a : A) (xs : List X) → fold g a (map f xs) ≡ fold (λ b x. g b (f x)) a xs
fold_map f g a [] = refl
fold_map f g a (x ∷ xs) = fold_map f g (g a (f x)) xs

count_map : {X Y : Type 0} (f : X → Y) (p : Y → Bool) (xs : List X) → count_by p (map f xs) ≡ count_by (λ x. p (f x)) xs
count_map f p xs = fold_map f (λ (a : ℕ) y. a + cond (p y) 1 0) 0 xs

after-map : {X Y : Type 0} (f : X → Y) (like : Y → Y → Bool) (before xs : List X) → ordinals_after (λ a b. like (f a) (f b)) before xs ≡ ordinals_after like (map f before) (map f xs)
after-map f like before [] = refl
after-map {X} {Y} f like before (x ∷ xs) =
    ap (λ n. (n + 1) ∷ ordinals_after (λ a b. like (f a) (f b)) (before ++ x ∷ []) xs) (sym (count_map f (like (f x)) before))
    ∙ ap (λ (ns : List ℕ). (count_by (like (f x)) (map f before) + 1) ∷ ns) (after-map f like (before ++ x ∷ []) xs ∙ ap (λ (ys : List Y). ordinals_after like ys (map f xs)) (map-append f before (x ∷ [])))

-- the ordinals of elements are those of what they are seen as
pub ordinals-map : {X Y : Type 0} (f : X → Y) (like : Y → Y → Bool) (xs : List X) → ordinals_of (λ a b. like (f a) (f b)) xs ≡ ordinals_of like (map f xs)
ordinals-map f like xs = after-map f like [] xs

module _ {X : Type 0} (like : X → X → Bool) where
  length-after : (before xs : List X) → length (ordinals_after like before xs) ≡ length xs
  length-after before [] = refl
  length-after before (x ∷ xs) = ap suc (length-after (before ++ x ∷ []) xs)

  pub length-ordinals : (xs : List X) → length (ordinals_of like xs) ≡ length xs
  length-ordinals xs = length-after [] xs

  after_at : (before xs : List X) (i : ℕ) (d : X) → i < length xs → get_or (ordinals_after like before xs) i 0 ≡ count_by (like (get_or xs i d)) (before ++ take i xs) + 1
  after_at before [] i d lt = absurd (omega (arith, lt))
  after_at before (x ∷ xs) zero d lt = ap (λ (ys : List X). count_by (like x) ys + 1) (sym (nil before))
    where
      nil : (ys : List X) → ys ++ [] ≡ ys
      nil [] = refl
      nil (y ∷ ys) = ap (λ (zs : List X). y ∷ zs) (nil ys)
  after_at before (x ∷ xs) (suc i) d lt = after_at (before ++ x ∷ []) xs i d (omega (arith, lt)) ∙ ap (λ (ys : List X). count_by (like (get_or xs i d)) ys + 1) (append_assoc before (x ∷ []) (take i xs))

  pub ordinal_at : (xs : List X) (i : ℕ) (d : X) → i < length xs → get_or (ordinals_of like xs) i 0 ≡ count_by (like (get_or xs i d)) (take i xs) + 1
  ordinal_at xs i d lt = after_at [] xs i d lt

  pub ordinal_few : (xs : List X) (i : ℕ) (d : X) → i < length xs → get_or (ordinals_of like xs) i 0 ≤ i + 1
  ordinal_few xs i d lt = omega (arith, ordinal_at xs i d lt, count_by-le-length (like (get_or xs i d)) (take i xs), length-take-le i xs (omega (arith, lt)))

  pub ordinals_few : (xs : List X) (d : X) → All (λ n. n ≤ length xs) (ordinals_of like xs)
  ordinals_few xs d = All-from_get_or (λ n. n ≤ length xs) (ordinals_of like xs) 0 (λ i lt. omega (arith, ordinal_few xs i d (omega (arith, lt, length-ordinals xs)), lt, length-ordinals xs))

count_rises : {X : Type 0} (p : X → Bool) (xs : List X) (i j : ℕ) (d : X) → i < j → i < length xs → p (get_or xs i d) ≡ true → count_by p (take i xs) + 1 ≤ count_by p (take j xs)
count_rises p [] i j d less lt holds = absurd (omega (arith, lt))
count_rises p (x ∷ xs) i zero d less lt holds = absurd (omega (arith, less))
count_rises p (x ∷ xs) zero (suc j) d less lt holds = omega (arith, sum_by-cons (λ y. cond (p y) 1 0) x (take j xs), ap {B = ℕ} (λ b. cond b 1 0) holds)
count_rises p (x ∷ xs) (suc i) (suc j) d less lt holds =
    omega (arith, count_rises p xs i j d (omega (arith, less)) (omega (arith, lt)) holds, sum_by-cons (λ y. cond (p y) 1 0) x (take j xs), sum_by-cons (λ y. cond (p y) 1 0) x (take i xs))

-- two places of like elements have two ordinals
module _ {X : Type 0} (like : X → X → Bool) (own : (x : X) → like x x ≡ true) (xs : List X) (d : X) where
  ordinal_less : (i j : ℕ) → i < j → j < length xs → get_or xs i d ≡ get_or xs j d → get_or (ordinals_of like xs) i 0 < get_or (ordinals_of like xs) j 0
  ordinal_less i j less lt same =
      omega (
        arith,
        ordinal_at like xs i d (omega (arith, less, lt)),
        ordinal_at like xs j d lt,
        ap (λ (x : X). count_by (like x) (take i xs)) same,
        count_rises (like (get_or xs j d)) xs i j d less (omega (arith, less, lt)) (ap (like (get_or xs j d)) same ∙ own (get_or xs j d)),
      )

  pub ordinal_once : (i j : ℕ) → i < length xs → j < length xs → get_or xs i d ≡ get_or xs j d → get_or (ordinals_of like xs) i 0 ≡ get_or (ordinals_of like xs) j 0 → i ≡ j
  ordinal_once i j low high same e = by (cases_order i j)
    where
      by : (i ≡ j) ⊎ ((i < j) ⊎ (j < i)) → i ≡ j
      by (inl q) = q
      by (inr (inl less)) = absurd (omega (arith, ordinal_less i j less high same, e))
      by (inr (inr more)) = absurd (omega (arith, ordinal_less j i more low (sym same), e))
