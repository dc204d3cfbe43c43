use Rattle.std.proofs.Common.{◌≡◌, ◌≤◌, ℕ, take}
use Rattle.std.specs.Prelude.{count_by, nat_eq}
use Rattle.slack_spread.proofs.measuring.count_zeros.Given as goal

abbrev pub invariant-numbers : goal.invariant-numbers
invariant-numbers l = (l.count ≡ count_by (λ (n : ℕ). nat_eq n 0) (take l.number-index l.numbers)) × (l.count ≤ l.number-index)
