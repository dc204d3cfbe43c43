-- Boxes that a chain of relations joins, and that have no relation of their own.
use Rattle.std.specs.Prelude.{◌≢◌, ◌↔◌, ℕ, List, AllPairs, Contains}
use Rattle.evidence_rules.specs.Reaching.{Reaches}

-- a chain of relations leads from the one box to the other, and no relation does
abbrev pub IsJoined : List (ℕ × ℕ) → ℕ → ℕ → Type 0
IsJoined pairs a b = (a ≢ b) × Reaches pairs a b × (Contains pairs (a, b) → ⊥)

-- a list of all such pairs, in which each stands once
pub record AreJoined (pairs joined : List (ℕ × ℕ)) : Type 0 where
  pub each : (a b : ℕ) → Contains joined (a, b) ↔ IsJoined pairs a b
  pub once : AllPairs (λ x y. x ≢ y) joined
