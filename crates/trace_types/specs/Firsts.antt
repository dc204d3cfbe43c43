-- The order of first sight.
use Rattle.std.specs.Prelude.{List, [], ◌∷◌, Bool, not, filter}

-- the elements of a list, each once, in the order of their first occurrences; `same` tells whether
-- two are equal
abbrev pub firsts_of : {X : Type 0} → (X → X → Bool) → List X → List X
firsts_of same [] = []
firsts_of same (x ∷ later) = x ∷ filter (λ y. not (same x y)) (firsts_of same later)
