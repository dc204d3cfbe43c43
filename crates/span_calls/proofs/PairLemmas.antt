-- What holds of each two elements of a list, by their places.
use Rattle.std.proofs.Common.{ℕ, suc, List, [], ◌∷◌, ◌++◌, All, get_or, arith}
use Rattle.std.specs.List.{AllPairs, flat_map}
use Rattle.std.proofs.lemmas.List.Elements.{All-append, All-from_get_or, All-get_or, All-head, All-nil, All-tail}
use Rattle.std.proofs.lemmas.List.Kept.{AllPairs-cons}

-- the same as AllPairs, by recursion
abbrev pub ByPairs : (ℕ → ℕ → Type 0) → List ℕ → Type 0
ByPairs R [] = Unit {0}
ByPairs R (x ∷ xs) = All (R x) xs × ByPairs R xs

module _ (R : ℕ → ℕ → Type 0) where
  pub pairs_listed : (xs : List ℕ) → AllPairs R xs → ByPairs R xs
  pairs_listed [] h = tt
  pairs_listed (x ∷ xs) h = (
    All-from_get_or (R x) xs 0 (λ i lt. h 0 (suc i) 0 (omega arith) (omega (arith, lt))),
    pairs_listed xs (λ i j d lt low. h (suc i) (suc j) d (omega (arith, lt)) (omega (arith, low))),
  )

  pub pairs_all : (xs : List ℕ) → ByPairs R xs → AllPairs R xs
  pairs_all [] h = λ i j d lt low. absurd (omega (arith, low))
  pairs_all (x ∷ xs) h = AllPairs-cons R x xs h.0 (pairs_all xs h.1)

  pairs_append : (xs ys : List ℕ) → ByPairs R xs → ByPairs R ys → All (λ x. All (R x) ys) xs → ByPairs R (xs ++ ys)
  pairs_append [] ys h k c = k
  pairs_append (x ∷ xs) ys h k c = (
    All-append (R x) xs ys h.0 (All-head (λ x. All (R x) ys) x xs c),
    pairs_append xs ys h.1 k (All-tail (λ x. All (R x) ys) x xs c),
  )

pub all_flat : (S : ℕ → Type 0) (f : ℕ → List ℕ) (ys : List ℕ) → All (λ z. All S (f z)) ys → All S (flat_map f ys)
all_flat S f [] h = All-nil S
all_flat S f (y ∷ ys) h = All-append S (f y) (flat_map f ys) (All-head (λ z. All S (f z)) y ys h) (all_flat S f ys (All-tail (λ z. All S (f z)) y ys h))

-- lists of elements one behind the other, where it holds within each list and across
pub flat_pairs : (R Q : ℕ → ℕ → Type 0) (P : ℕ → Type 0) (f : ℕ → List ℕ) → ((y : ℕ) → P y → ByPairs R (f y)) → ((y z : ℕ) → P y → P z → Q y z → All (λ d. All (R d) (f z)) (f y))
    → (ys : List ℕ) → All P ys → ByPairs Q ys → ByPairs R (flat_map f ys)
flat_pairs R Q P f own cross [] p q = tt
flat_pairs R Q P f own cross (y ∷ ys) p q =
    pairs_append R (f y) (flat_map f ys) (own y (All-head P y ys p)) (flat_pairs R Q P f own cross ys (All-tail P y ys p) q.1)
    (All-from_get_or (λ d. All (R d) (flat_map f ys)) (f y) 0 (λ i lt. all_flat (R (get_or (f y) i 0)) f ys (All-from_get_or (λ z. All (R (get_or (f y) i 0)) (f z)) ys 0 (λ j less.
    All-get_or (λ d. All (R d) (f (get_or ys j 0))) (f y) i 0 lt
    (cross y (get_or ys j 0) (All-head P y ys p) (All-get_or P ys j 0 less (All-tail P y ys p)) (All-get_or (Q y) ys j 0 less q.0))))))
