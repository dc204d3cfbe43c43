use Rattle.std.proofs.Common.{◌≡◌, ℕ, ◌<◌, false}
use Rattle.implied_pairs.specs.inner.Matrices.{is_between}
use Rattle.implied_pairs.proofs.implying.is_implied.Given as goal

abbrev pub invariant-numbers : goal.invariant-numbers
invariant-numbers l = (c : ℕ) → c < l.number → is_between l.count l.matrix l.pair.0 l.pair.1 c ≡ false
