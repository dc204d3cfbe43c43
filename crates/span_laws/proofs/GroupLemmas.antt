-- Groups of contexts: as many as contexts, and each named by one.
use Rattle.std.proofs.Common.{◌≡◌, ℕ, ◌<◌, ◌==◌, List, [], ◌∷◌, Bool, true, false, cond, length, max, min, fold, get_or, refl, ◌∙◌, arith, eqb-true}
use Rattle.std.specs.List.{All, range_with_len}
use Rattle.std.proofs.lemmas.List.{length-map}
use Rattle.std.proofs.lemmas.List.Elements.{All-map}
use Rattle.std.proofs.lemmas.List.FromFn.{get_or-range_with_len, length-range_with_len}
use Rattle.linked_groups.specs.Groups.{groups_after, groups_of, groups_with}

AreSmall : ℕ → List ℕ → Type 0
AreSmall count groups = (length groups ≡ count) × All (λ g. g < count) groups

small_with : (count : ℕ) (groups : List ℕ) (one other : ℕ) → All (λ g. g < count) groups → All (λ g. g < count) (groups_with groups one other)
small_with count groups one other h = All-map (λ g. g < count) (λ g. cond (g == max one other) (min one other) g) groups (λ k d l. by (get_or groups k d) (get_or groups k d == max one other) refl (h k d l))
  where
    by : (g : ℕ) (b : Bool) → (g == max one other) ≡ b → g < count → cond b (min one other) g < count
    by g true e l = let q = eqb-true g (max one other) e in omega (arith, q, l)
    by g false e l = l

fold_small : (count : ℕ) (links : List (ℕ × ℕ)) (groups : List ℕ) → length groups ≡ count → All (λ g. g < count) groups → (length (fold groups_after groups links) ≡ count) × All (λ g. g < count) (fold groups_after groups links)
fold_small count [] groups n h = (n, h)
fold_small count (l ∷ links) groups n h = fold_small count links (groups_after groups l)
    (length-map groups (λ g. cond (g == max (get_or groups l.0 0) (get_or groups l.1 0)) (min (get_or groups l.0 0) (get_or groups l.1 0)) g) ∙ n)
    (small_with count groups (get_or groups l.0 0) (get_or groups l.1 0) h)

pub groups_small : (count : ℕ) (links : List (ℕ × ℕ)) → (length (groups_of count links) ≡ count) × All (λ g. g < count) (groups_of count links)
groups_small count links = fold_small count links (range_with_len 0 count) (length-range_with_len 0 count)
    (λ k d l. let n = length-range_with_len 0 count in let w : k < count = omega (arith, l, n) in let e = get_or-range_with_len 0 count k d w in omega (arith, e, w))
