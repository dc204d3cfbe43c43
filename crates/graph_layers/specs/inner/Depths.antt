-- Numbers below a bound that pass a test: how many, and how deep the deepest is.
use Rattle.std.specs.Prelude.{◌≡◌, ℕ, zero, suc, ◌+◌, ◌<◌, ◌≤◌, Bool, List, if◌then◌else◌}
use Rattle.std.specs.Prelude.{length, max, slice_index}

-- how many numbers below a bound pass
abbrev pub tally : (ℕ → Bool) → ℕ → ℕ
tally p zero = 0
tally p (suc n) = tally p n + (if p n then 1 else 0)

-- one more than the greatest depth of those that pass; 0 if none does
abbrev pub depth_over : (ℕ → Bool) → (ℕ → ℕ) → ℕ → ℕ
depth_over p depth zero = 0
depth_over p depth (suc n) =
    if p n then max (depth_over p depth n) (depth n + 1) else depth_over p depth n

-- no number of a list is greater
abbrev pub AreSmall : ℕ → List ℕ → Type 0
AreSmall most list = (i : ℕ) → slice_index list i ≤ most

-- the first so many numbers, each one more than the greatest depth of those above it
pub record AreDepths (count so_far : ℕ) (above : ℕ → ℕ → Bool) (depth : ℕ → ℕ) (list : List ℕ)
    : Type 0 where
  pub size : length list ≡ so_far
  pub each : (b : ℕ) → b < so_far → slice_index list b ≡ depth_over (λ a. above a b) depth count

-- the depth of a number after so many rounds
abbrev pub depth_after : (count : ℕ) → (ℕ → ℕ → Bool) → ℕ → ℕ → ℕ
depth_after count above zero b = 0
depth_after count above (suc round) b =
    depth_over (λ a. above a b) (depth_after count above round) count

-- the depths of all numbers below a count after so many rounds
pub record AreRounds (count round : ℕ) (above : ℕ → ℕ → Bool) (list : List ℕ) : Type 0 where
  pub size : length list ≡ count
  pub each : (b : ℕ) → b < count → slice_index list b ≡ depth_after count above round b
  pub small : AreSmall round list
