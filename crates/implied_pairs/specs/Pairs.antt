-- Pairs of numbers.
use Rattle.std.specs.Prelude.{ℕ, ◌<◌, List, All}

-- both numbers of each pair are below this number
abbrev pub AreBelow : ℕ → List (ℕ × ℕ) → Type 0
AreBelow count pairs = All (λ pair. (pair.0 < count) × (pair.1 < count)) pairs
