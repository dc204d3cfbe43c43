-- Pieces by halving.
use Rattle.std.proofs.Common.{◌≡◌, ℕ, zero, List, [], ◌∷◌, refl, suc, ◌-◌, ◌/◌, ◌<◌, Bool, true, false, ◌++◌, length, take, drop, ap}
use Rattle.std.proofs.lemmas.Bool.{lt-ltb}
use Rattle.trace_rules.specs.Halving.{halving, first_part}

pub no_rounds : {T : Type 0} (workers : ℕ) (xs : List T) → halving zero workers xs ≡ xs ∷ []
unfolding halving
no_rounds workers xs = refl

pub halving_more : {T : Type 0} (rounds workers : ℕ) (xs : List T) → 1 < workers
    → halving (suc rounds) workers xs ≡ halving rounds (workers / 2) (take (first_part (length xs) workers) xs) ++ halving rounds (workers - workers / 2) (drop (first_part (length xs) workers) xs)
unfolding halving
halving_more {T} rounds workers xs h = ap (λ (b : Bool). elim b as (λ _. List (List T)) [
  | true ↦ halving rounds (workers / 2) (take (first_part (length xs) workers) xs) ++ halving rounds (workers - workers / 2) (drop (first_part (length xs) workers) xs)
  | false ↦ xs ∷ []
]) (lt-ltb 1 workers h)
