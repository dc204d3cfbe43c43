-- What an intake took of an input.
use Rattle.std.specs.Prelude.{ℕ, ◌++◌, List}

-- these bytes were taken, after those before
abbrev pub TakesMore : {I : Type 0} → (I → List ℕ → Type 0) → I → List ℕ → I → Type 0
TakesMore took old bytes new = (taken : List ℕ) → took old taken → took new (taken ++ bytes)
