-- The greatest power of two that is not above a limit.
use Rattle.std.specs.Prelude.{ℕ, ◌≡◌, ◌*◌, ◌^◌, ◌<◌, ◌≤◌, max}

-- the number is that power, and twice it is above the limit; a limit of 0 is as one of 1
abbrev pub IsPowerBelow : ℕ → ℕ → Type 0
IsPowerBelow most power =
    (k : ℕ) × (power ≡ 2 ^ k) × (2 ^ k ≤ max 1 most) × (max 1 most < 2 * 2 ^ k)
