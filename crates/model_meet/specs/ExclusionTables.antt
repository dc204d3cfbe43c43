-- What the bits of mutual exclusions tell, and the entries of a table of them.
use Rattle.std.specs.Prelude.{◌≡◌, ◌≢◌, ◌↔◌, ℕ, ◌+◌, ◌*◌, ◌<◌, Bool, List, length, get_or, IsTrue}
use Rattle.model_meet.specs.ModelStates.{ModelState}
use Rattle.model_meet.specs.RelationBits.{KeepsExclusion}
use Rattle.refute_tests.specs.Survivors.{AreSurvivors}
use Rattle.trace_types.specs.Parts.{by_number}
use Rattle.trace_types.specs.Refuting.{RefutesExclusive}
use Rattle.trace_types.specs.Surviving.{Survives}
use Rattle.trace_types.specs.declared.named_trace.NamedTrace.{NamedTrace}

-- whichever traces the words tell of, the bit of the mutual exclusion of two names below the
-- model's is 1 exactly where no trace refutes it
abbrev pub TellsExclusions : ModelState → Type 0
TellsExclusions model = (traces : List NamedTrace) → AreSurvivors traces model.words
    → (a b : ℕ) → a ≢ b → a < model.names → b < model.names
    → KeepsExclusion model.words a b ↔ Survives (RefutesExclusive by_number a b) traces

-- the entry tells whether the bit of the mutual exclusion of two names is 1, and so whether it
-- survives
pub record TellsExclusion (model : ModelState) (a b : ℕ) (entry : Bool) : Type 0 where
  pub bit : IsTrue entry ↔ KeepsExclusion model.words a b
  pub told : (traces : List NamedTrace) → AreSurvivors traces model.words
      → IsTrue entry ↔ Survives (RefutesExclusive by_number a b) traces

-- the table has the entries of the first so many pairs of names, row after row
pub record HasEntries (model : ModelState) (count : ℕ) (table : List Bool) : Type 0 where
  pub each : length table ≡ count
  pub tell : (a b : ℕ) (d : Bool) → b < model.names → a * model.names + b < count → a ≢ b
      → TellsExclusion model a b (get_or table (a * model.names + b) d)

-- the table has an entry for each two names
abbrev pub IsExclusionTable : ModelState → List Bool → Type 0
IsExclusionTable model table = HasEntries model (model.names * model.names) table
