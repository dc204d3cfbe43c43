use Rattle.std.proofs.Common.{◌≡◌, ◌↔◌, ℕ, true, take}
use Rattle.std.specs.List.{AllZip}
use Rattle.evidence_rules.specs.Reaching.{IsImplied}
use Rattle.implied_pairs.proofs.implying.implied_pairs.Given as goal

abbrev pub invariant-pairs : goal.invariant-pairs
invariant-pairs l = AllZip (λ (pair : ℕ × ℕ) v. (v ≡ true) ↔ IsImplied l.pairs pair.0 pair.1) (take l.pair-index l.pairs) l.marks.items
