-- What leaving out implied pairs keeps: a statement that a law proves.
use Rattle.std.specs.Prelude.{◌↔◌, ℕ, List, Contains}
use Rattle.evidence_rules.specs.Reaching.{IsImplied, Reaches}
use Rattle.implied_pairs.specs.Pairs.{AreBelow}

-- of the pairs exactly those are left that are not implied
abbrev pub AreNotImplied : List (ℕ × ℕ) → List (ℕ × ℕ) → Type 0
AreNotImplied pairs left = (a b : ℕ) → Contains left (a, b)
    ↔ (Contains pairs (a, b) × (IsImplied pairs a b → ⊥))

-- over the pairs that are left the same numbers reach each other
abbrev pub SameReach : Type 0
SameReach = (count : ℕ) (pairs left : List (ℕ × ℕ)) → AreBelow count pairs
    → AreNotImplied pairs left → (a b : ℕ) → Reaches pairs a b ↔ Reaches left a b
