-- How numbers are spread: the members at tenths of the way along them in rising order. This is the
-- project's own.
use Rattle.std.specs.Prelude.{◌≡◌, ℕ, ◌-◌, ◌*◌, ◌/◌, ◌<◌, ◌≤◌, nat_eq, nat_lt, nat_le, List, length}
use Rattle.std.specs.Prelude.{count_by, Contains}
use Rattle.slack_spread.specs.declared.spread.Spread.{Spread}
use Rattle.trace_rules.specs.Numbers.{OrZero}

-- the member with this index, from 0, of the numbers in rising order: at most so many members are
-- less, and more than that many are at most it
pub record IsAtIndex (numbers : List ℕ) (index m : ℕ) : Type 0 where
  pub member : Contains numbers m
  pub less : count_by (λ n. nat_lt n m) numbers ≤ index
  pub at_most : index < count_by (λ n. nat_le n m) numbers

-- the member so many tenths of the way along the numbers in rising order: of c members that with
-- the index (c - 1) * tenths / 10, rounded down
abbrev pub IsAlong : ℕ → List ℕ → ℕ → Type 0
IsAlong tenths numbers m = IsAtIndex numbers ((length numbers - 1) * tenths / 10) m

-- how many members there are, how many of them are 0, and the members from the least to the
-- greatest; of no members each is 0
pub record IsSpread (numbers : List ℕ) (s : Spread) : Type 0 where
  pub count : s.count ≡ length numbers
  pub zero : s.zero ≡ count_by (λ n. nat_eq n 0) numbers
  pub least : OrZero (IsAlong 0) numbers s.least
  pub tenth : OrZero (IsAlong 1) numbers s.tenth
  pub median : OrZero (IsAlong 5) numbers s.median
  pub ninetieth : OrZero (IsAlong 9) numbers s.ninetieth
  pub greatest : OrZero (IsAlong 10) numbers s.greatest
