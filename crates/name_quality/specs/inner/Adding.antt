-- How names are gathered, trace after trace.
use Rattle.std.specs.Prelude.{ℕ, ◌≡◌, ◌++◌, List, All}
use Rattle.event_table.specs.Gathered.{NumberedTrace}
use Rattle.name_quality.specs.Names.{HasNames, HasTexts, names_under}

-- the names of a trace were appended
pub record AddsNames (raw : NumberedTrace) (old new : List (ℕ × ℕ × ℕ)) : Type 0 where
  pub more : List (ℕ × ℕ × ℕ)
  pub appended : new ≡ old ++ more
  pub known : All (HasTexts raw.texts) more
  pub named : HasNames raw.trace (names_under raw.texts more)

-- the number of the task of a name
abbrev pub task_number : ℕ × ℕ × ℕ → ℕ
task_number k = k.0
