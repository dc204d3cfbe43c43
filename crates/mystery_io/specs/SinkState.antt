-- The state of a sink in memory.
use Rattle.std.specs.Prelude.{ℕ, List}

-- what was written, how many bytes a write takes at most, the numbers of the writes that fail, how
-- many bytes there is room for in all, and how many calls and faults there were
pub record SinkState : Type 0 where
  pub bytes : List ℕ
  pub most : ℕ
  pub failing : List ℕ
  pub room : ℕ
  pub calls : ℕ
  pub faults : ℕ
