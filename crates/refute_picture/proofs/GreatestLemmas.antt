-- The greatest number, one after another.
use Rattle.std.proofs.Common.{◌≡◌, ℕ, suc, ◌<◌, ◌≤◌, ◌+◌, List, [], ◌∷◌, length, drop, get_or, sym, ap, ◌∙◌, arith}
use Rattle.std.specs.Prelude.{max}
use Rattle.std.proofs.Math.Seq.{drop-cons}
use Rattle.std.proofs.lemmas.List.{drop_all}

-- of a list's greatest, so far and of the elements that are left
module _ {X : Type 0} (figure : X → ℕ) (greatest : List X → ℕ) (none : greatest [] ≡ 0) (some : (x : X) (xs : List X) → greatest (x ∷ xs) ≡ max (figure x) (greatest xs)) where
  pub greatest_next : (xs : List X) (i : ℕ) (x : X) (so_far now : ℕ) → i < length xs → x ≡ get_or xs i x → now ≡ max (figure x) so_far → greatest xs ≡ max so_far (greatest (drop i xs)) → greatest xs ≡ max now (greatest (drop (i + 1) xs))
  greatest_next xs i x so_far now lt is same told =
      let next : i + 1 ≡ suc i = omega arith in
      let left : drop i xs ≡ x ∷ drop (i + 1) xs = drop-cons xs i x lt ∙ ap (λ (y : X). y ∷ drop (suc i) xs) (sym is) ∙ ap (λ k. x ∷ drop k xs) (sym next) in
      let here : greatest xs ≡ max so_far (max (figure x) (greatest (drop (i + 1) xs))) = told ∙ ap (λ (ys : List X). max so_far (greatest ys)) left ∙ ap (λ n. max so_far n) (some x (drop (i + 1) xs)) in
      here ∙ order so_far (figure x) now (greatest (drop (i + 1) xs)) same
    where
      order : (w g n r : ℕ) → n ≡ max g w → max w (max g r) ≡ max n r
      order w g n r e = omega (arith, e)

  pub greatest_done : (xs : List X) (i so_far : ℕ) → length xs ≤ i → greatest xs ≡ max so_far (greatest (drop i xs)) → so_far ≡ greatest xs
  greatest_done xs i so_far le told =
      let left : greatest (drop i xs) ≡ 0 = ap greatest (drop_all i xs le) ∙ none in
      omega (arith, told, left)
