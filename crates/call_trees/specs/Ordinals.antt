-- Which of its like an element is.
use Rattle.std.specs.Prelude.{ℕ, ◌+◌, List, [], ◌∷◌, ◌++◌, Bool}
use Rattle.std.specs.List.{count_by}

-- which of those like it each element is, from 1, where these stand before them
abbrev pub ordinals_after : {X : Type 0} → (X → X → Bool) → List X → List X → List ℕ
ordinals_after like before [] = []
ordinals_after like before (x ∷ xs) =
    (count_by (like x) before + 1) ∷ ordinals_after like (before ++ x ∷ []) xs

-- which of those like it each element of a list is, from 1
abbrev pub ordinals_of : {X : Type 0} → (X → X → Bool) → List X → List ℕ
ordinals_of like xs = ordinals_after like [] xs
