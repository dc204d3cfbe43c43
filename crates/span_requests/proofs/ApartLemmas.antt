-- Numbers that are apart, and that rise.
use Rattle.std.proofs.Common.{◌≡◌, ◌≢◌, ◌⊎◌, inl, inr, ℕ, ◌<◌, List, eqb, get_or, sym, ◌∙◌, arith}
use Rattle.std.specs.Prelude.{IsPermutation}
use Rattle.std.specs.List.{AllPairs, IsDistinct, range_with_len}
use Rattle.std.proofs.lemmas.Bool.{cases_eq, eq-eqb, eqb-false, ne_eqb}
use Rattle.std.proofs.lemmas.List.FromFn.{get_or-range_with_len, length-range_with_len}
use Rattle.std.proofs.lemmas.Map.Keys.{IsDistinct-IsPermutation, IsDistinct-from_apart, apart_from_distinct}

-- numbers that are apart are so in any order
pub apart_permutation : (xs ys : List ℕ) → IsPermutation xs ys → AllPairs (λ d e. d ≢ e) xs → AllPairs (λ d e. d ≢ e) ys
apart_permutation xs ys moved h i j d lt less = eqb-false (get_or ys i d) (get_or ys j d) (apart_from_distinct eqb ys i j d distinct lt less)
  where
    flips : (x y : ℕ) → eqb x y ≡ eqb y x
    flips x y = by (cases_eq x y)
      where
        by : (x ≡ y) ⊎ (x ≡ y → ⊥) → eqb x y ≡ eqb y x
        by (inl e) = eq-eqb x y e ∙ sym (eq-eqb y x (sym e))
        by (inr ne) = ne_eqb x y ne ∙ sym (ne_eqb y x (λ e. ne (sym e)))

    distinct : IsDistinct eqb ys
    distinct = IsDistinct-IsPermutation eqb flips xs ys moved (IsDistinct-from_apart eqb xs (λ i j d lt less. ne_eqb (get_or xs i d) (get_or xs j d) (h i j d lt less)))

-- the numbers below a bound rise
pub range_rises : (n : ℕ) → AllPairs (λ i j. i < j) (range_with_len 0 n)
range_rises n i j d lt low =
    let small : j < n = omega (arith, low, length-range_with_len 0 n) in
    omega (arith, lt, get_or-range_with_len 0 n i d (omega (arith, lt, small)), get_or-range_with_len 0 n j d small)

pub apart_from_rising : (xs : List ℕ) → AllPairs (λ i j. i < j) xs → AllPairs (λ d e. d ≢ e) xs
apart_from_rising xs h i j d lt less = λ e. omega (arith, h i j d lt less, e)
