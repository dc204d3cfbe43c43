-- What survives under a grace: statements that laws prove.
use Rattle.std.specs.Prelude.{◌≡◌, ◌≢◌, ◌↔◌, ℕ, ◌*◌, ◌<◌, Bool, false, List}
use Rattle.evidence_laws.specs.ModelLaws.{TellsSame}
use Rattle.evidence_rules.specs.Meetings.{AreMeetingFigures, meetings_from}
use Rattle.evidence_rules.specs.declared.between.Between.{Between}
use Rattle.trace_types.specs.Parts.{Parts}
use Rattle.trace_types.specs.Refuting.{RefutesExclusive}
use Rattle.trace_types.specs.Relations.{HappensBefore}
use Rattle.trace_types.specs.Surviving.{Survives}
use Rattle.grace_quality.specs.Graces.{refutes_under, under_grace}

module _ {A S N T E : Type 0} (p : Parts A S N T E) (same : N → N → Bool) where
  -- were all traces judged with a grace of so many microseconds, the one of two names that meet
  -- would happen before the other exactly where the least of their gaps does not refute under it
  abbrev pub OrdersSurviveUnder : Type 0
  OrdersSurviveUnder = TellsSame same → (traces : List A) (a b : N) (f : Between) (micros : ℕ)
      → a ≢ b → AreMeetingFigures (meetings_from p same a b 0 traces) f → 0 < f.traces
      → HappensBefore (under_grace (1000 * micros) p) traces a b
      ↔ (refutes_under micros f.least ≡ false)

  -- were they so judged, none would refute that two names that meet are mutually exclusive exactly
  -- where the least of the gaps between the two does not refute under it
  abbrev pub ExclusionsSurviveUnder : Type 0
  ExclusionsSurviveUnder = TellsSame same → (traces : List A) (a b : N) (f : Between) (micros : ℕ)
      → AreMeetingFigures (meetings_from p same a b 0 traces) f → 0 < f.traces
      → Survives (RefutesExclusive (under_grace (1000 * micros) p) a b) traces
      ↔ (refutes_under micros f.nearest ≡ false)
