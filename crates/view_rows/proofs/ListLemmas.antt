-- The elements of lists that are made of others.
use Rattle.std.proofs.Common.{◌≡◌, ℕ, zero, suc, ◌<◌, List, [], ◌∷◌, length, get_or, map, refl, arith}
use Rattle.std.specs.List.{All, Contains}
use Rattle.trace_types.proofs.ElementLemmas.{Contains-map}

-- what holds of each mapped element
pub All-unmap : {X Y : Type 0} (P : Y → Type 0) (f : X → Y) (xs : List X) → ((y : Y) → Contains (map f xs) y → P y) → All (λ x. P (f x)) xs
All-unmap P f xs holds k d lt = holds (f (get_or xs k d)) (Contains-map f xs (get_or xs k d) (f (get_or xs k d)) (k, lt, same xs k d (get_or xs k d) lt) refl)
  where
    same : {X : Type 0} (ys : List X) (i : ℕ) (d e : X) → i < length ys → get_or ys i e ≡ get_or ys i d
    same [] i d e lt = absurd (omega arith)
    same (y ∷ ys) zero d e lt = refl
    same (y ∷ ys) (suc i) d e lt = same ys i d e (omega arith)
