-- The figures of a list of numbers.
use Rattle.std.specs.Prelude.{◌≡◌, ℕ, ◌-◌, ◌/◌, ◌<◌, ◌≤◌, nat_lt, nat_le, List, [], ◌∷◌, length}
use Rattle.std.specs.Prelude.{sum, count_by, All, Contains}
use Rattle.trace_rules.specs.declared.figures.Figures.{Figures}

-- the member in the middle, of two the lower: of c members at most (c - 1) / 2, rounded down, are
-- less, and more than that many are at most it
pub record IsMedian (numbers : List ℕ) (m : ℕ) : Type 0 where
  pub member : Contains numbers m
  pub less : count_by (λ n. nat_lt n m) numbers ≤ (length numbers - 1) / 2
  pub at_most : (length numbers - 1) / 2 < count_by (λ n. nat_le n m) numbers

-- the greatest member
pub record IsGreatest (numbers : List ℕ) (m : ℕ) : Type 0 where
  pub member : Contains numbers m
  pub none_greater : All (λ n. n ≤ m) numbers

-- of a list without members 0, and else a number that is as asked
abbrev pub OrZero : (List ℕ → ℕ → Type 0) → List ℕ → ℕ → Type 0
OrZero Is [] m = m ≡ 0
OrZero Is (n ∷ ns) m = Is (n ∷ ns) m

-- how many members there are, their sum, the median and the greatest; of no members each is 0
pub record AreFigures (numbers : List ℕ) (f : Figures) : Type 0 where
  pub count : f.count ≡ length numbers
  pub sum : f.sum ≡ sum numbers
  pub median : OrZero IsMedian numbers f.median
  pub greatest : OrZero IsGreatest numbers f.greatest
