-- Lists in parts, by the places where the parts end.
use Rattle.std.proofs.Props.{props}
use Rattle.std.specs.Coded.{×_prop, le_prop}
use Rattle.std.specs.Prelude.{ℕ, ◌≡◌, ◌≤◌, List, [], ◌∷◌, slice_range}

-- the parts of a list that end before these places; the first begins at start
abbrev pub cut_at : {X : Type 0} → ℕ → List ℕ → List X → List (List X)
cut_at start [] xs = []
cut_at start (end ∷ ends) xs = slice_range xs start end ∷ cut_at end ends xs

-- no part ends before it begins, and the last one ends with the list
abbrev pub AreStops : ℕ → List ℕ → ℕ → Type 0
AreStops start [] count = start ≡ count
AreStops start (end ∷ ends) count = (start ≤ end) × AreStops end ends count

pub AreStops-prop : (start : ℕ) (ends : List ℕ) (count : ℕ) → IsProp (AreStops start ends count)
AreStops-prop start [] count = Prim.hlevel props
AreStops-prop start (end ∷ ends) count = ×_prop le_prop (AreStops-prop end ends count)
