-- Lists by index.
use Rattle.std.specs.Prelude.{ℕ, List, map}
use Rattle.std.specs.List.{range_with_len}

-- the values of a function at the numbers below n, in order
abbrev pub table_of : {X : Type 0} → (ℕ → X) → ℕ → List X
table_of f n = map f (range_with_len 0 n)
