-- How many pairs of numbers are in a relation.
use Rattle.std.specs.Prelude.{◌≡◌, ◌≢◌, ◌⊎◌, ℕ, ◌<◌}
use Rattle.std.specs.declared.cmp.Ordering.{Ordering}
use Rattle.std.specs.declared.cmp.Ordering.TheVariants.{Less}
use Rattle.trace_types.specs.Listing.{AreExactly}

-- exactly n ordered pairs of numbers below the limit are in the relation
abbrev pub CountsPairs : ℕ → (ℕ → ℕ → Type 0) → ℕ → Type 0
CountsPairs limit R n =
    AreExactly (λ (pair : ℕ × ℕ). (pair.0 < limit) × (pair.1 < limit) × R pair.0 pair.1) n

-- in this order, of two different numbers below the limit just one is less than the other, and no
-- number below it is less than itself
pub record OrdersBelow (limit : ℕ) (cmp : ℕ → ℕ → Ordering) : Type 0 where
  pub one_is_less : (a b : ℕ) → a < limit → b < limit → a ≢ b
      → (cmp a b ≡ Less) ⊎ (cmp b a ≡ Less)
  pub not_both : (a b : ℕ) → a < limit → b < limit → cmp a b ≡ Less → cmp b a ≡ Less → ⊥
