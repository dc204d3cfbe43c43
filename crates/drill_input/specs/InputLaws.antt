-- How long an input is.
use Rattle.std.specs.Prelude.{ℕ, ◌≤◌, length}
use Rattle.drill_input.specs.DrillInput.{drill_input}

-- an input of at most 20,000 traces has at most 67,108,864 bytes
abbrev pub InputIsShort : Type 0
InputIsShort = (number traces : ℕ) → traces ≤ 20000 → length (drill_input number traces) ≤ 67108864
