-- Sums that are cut at a most, one element after another.
use Rattle.std.proofs.Common.{◌≡◌, ℕ, ◌<◌, ◌≤◌, ◌+◌, List, length, take, get_or, min, ap, ◌∙◌, arith}
use Rattle.std.specs.Prelude.{sum_by}
use Rattle.std.proofs.lemmas.List.{take_all}
use Rattle.std.proofs.lemmas.List.Sums.{sum_by_more}

module _ {X : Type 0} (f : X → ℕ) (xs : List X) (i : ℕ) where
  pub capped_more : (x : X) (most time now : ℕ) → i < length xs → x ≡ get_or xs i x → time ≡ min most (sum_by f (take i xs)) → now ≡ min (time + f x) most → now ≡ min most (sum_by f (take (i + 1) xs))
  capped_more x most time now lt is told step =
      let more : sum_by f (take (i + 1) xs) ≡ sum_by f (take i xs) + f (get_or xs i x) = sum_by_more f xs i x lt in
      let here : f x ≡ f (get_or xs i x) = ap f is in
      order most time now (f x) (f (get_or xs i x)) (sum_by f (take i xs)) (sum_by f (take (i + 1) xs)) told step more here
    where
      order : (m t n v w s z : ℕ) → t ≡ min m s → n ≡ min (t + v) m → z ≡ s + w → v ≡ w → n ≡ min m z
      order m t n v w s z told step more here = omega arith

  pub capped_done : (most time : ℕ) → length xs ≤ i → time ≡ min most (sum_by f (take i xs)) → time ≡ min most (sum_by f xs)
  capped_done most time le told = told ∙ ap (λ (ys : List X). min most (sum_by f ys)) (take_all i xs le)
