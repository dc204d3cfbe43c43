-- Keys with their indexes.
use Rattle.std.specs.Prelude.{ℕ, ◌≡◌, List, Some, All, map, slice_get}

-- each pair has a key and its index
abbrev pub AreIndexed : {K : Type 0} → List K → List (K × ℕ) → Type 0
AreIndexed {K} keys pairs = All (λ (p : K × ℕ). slice_get keys p.1 ≡ Some p.0) pairs

-- the indexes of pairs
abbrev pub indexes_of : {K : Type 0} → List (K × ℕ) → List ℕ
indexes_of {K} pairs = map (λ (p : K × ℕ). p.1) pairs
