-- The relations that figures tell are those of the model: statements that laws prove.
use Rattle.std.specs.Prelude.{◌≡◌, ◌≢◌, ◌↔◌, ◌<◌, Bool, true, List}
use Rattle.std.specs.declared.cmp.Ordering.{Ordering}
use Rattle.std.specs.declared.cmp.Ordering.TheVariants.{Less}
use Rattle.evidence_rules.specs.Meetings.{AreMeetingFigures, meetings_from}
use Rattle.evidence_rules.specs.Sharings.{AreSharings}
use Rattle.evidence_rules.specs.declared.between.Between.{Between}
use Rattle.evidence_rules.specs.declared.sharing.Sharing.{Sharing}
use Rattle.trace_rules.specs.Pipes.{IsPipeline}
use Rattle.trace_types.specs.Parts.{Parts}
use Rattle.trace_types.specs.Relations.{ExcludesUnordered, HappensBefore}

-- the test tells whether two names are one
abbrev pub TellsSame : {N : Type 0} → (N → N → Bool) → Type 0
TellsSame {N} same = (a b : N) → (same a b ≡ true) ↔ (a ≡ b)

module _ {A S N T E : Type 0} (p : Parts A S N T E) (same : N → N → Bool) where
  -- of two names the one happens before the other exactly where some trace has both, and none of
  -- their meetings refutes it
  abbrev pub OrdersAreTold : Type 0
  OrdersAreTold = TellsSame same → (traces : List A) (a b : N) (f : Between) → a ≢ b
      → AreMeetingFigures (meetings_from p same a b 0 traces) f
      → HappensBefore p traces a b ↔ ((0 < f.traces) × (f.early ≡ 0))

  -- two names in order are mutually exclusive with no fixed order exactly where some trace has
  -- both, none of their meetings refutes that they are, and each order is refuted
  abbrev pub ExclusionsAreTold : Type 0
  ExclusionsAreTold = TellsSame same → (cmp : N → N → Ordering) (traces : List A) (a b : N)
      (f : Between) → cmp a b ≡ Less → AreMeetingFigures (meetings_from p same a b 0 traces) f
      → ExcludesUnordered p cmp traces a b
      ↔ ((0 < f.traces) × (f.both ≡ 0) × (0 < f.early) × (0 < f.turned))

module _ {A S N T E : Type 0} (p : Parts A S N T E) where
  -- two tasks are a pipeline exactly where some trace has an element in both, and none refutes it
  abbrev pub PipesAreTold : Type 0
  PipesAreTold = (traces : List A) (t u : T) (f : Sharing) → t ≢ u → AreSharings p traces t u f
      → IsPipeline p traces t u ↔ ((0 < f.traces) × (f.refuted ≡ 0))
