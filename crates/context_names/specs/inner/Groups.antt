-- Lists of numbers below a bound.
use Rattle.std.specs.Prelude.{ℕ, ◌<◌, List, All}

-- each number of these lists is below a bound
abbrev pub AreBelow : ℕ → List (List ℕ) → Type 0
AreBelow count lists = All (λ (numbers : List ℕ). All (λ y. y < count) numbers) lists
