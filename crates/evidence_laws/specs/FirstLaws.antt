-- The first trace that figures name is the first that refutes: statements that laws prove.
use Rattle.std.specs.Prelude.{◌≡◌, ℕ, ◌<◌, Bool, List, Some, slice_get}
use Rattle.evidence_rules.specs.Meetings.{AreMeetingFigures, meetings_from}
use Rattle.evidence_rules.specs.declared.between.Between.{Between}
use Rattle.trace_types.specs.Parts.{Parts}
use Rattle.trace_types.specs.Refuting.{RefutesBefore, RefutesExclusive}
use Rattle.evidence_laws.specs.ModelLaws.{TellsSame}

-- the trace at this index has the property, and none before it has
pub record IsFirstWith {A : Type 0} (P : A → Type 0) (traces : List A) (index : ℕ) : Type 0 where
  pub trace : A
  pub at : slice_get traces index ≡ Some trace
  pub has : P trace
  pub first : (i : ℕ) (t : A) → i < index → slice_get traces i ≡ Some t → P t → ⊥

module _ {A S N T E : Type 0} (p : Parts A S N T E) (same : N → N → Bool) where
  abbrev pub FirstEarlyIsFirst : Type 0
  FirstEarlyIsFirst = TellsSame same → (traces : List A) (a b : N) (f : Between)
      → AreMeetingFigures (meetings_from p same a b 0 traces) f → 0 < f.early
      → IsFirstWith (RefutesBefore p a b) traces f.first_early

  abbrev pub FirstBothIsFirst : Type 0
  FirstBothIsFirst = TellsSame same → (traces : List A) (a b : N) (f : Between)
      → AreMeetingFigures (meetings_from p same a b 0 traces) f → 0 < f.both
      → IsFirstWith (RefutesExclusive p a b) traces f.first_both
