-- What a contract sees of a model.
use Rattle.std.specs.Prelude.{ℕ, List}

-- the words that it reads, and the number of names whose relations these hold
pub record ModelState : Type 0 where
  pub words : List ℕ
  pub names : ℕ
