-- How many traces have a property, and which of the figures of two names are such counts.
use Rattle.std.specs.Prelude.{◌≡◌, ℕ, ◌-◌, ◌≤◌, Bool, List, All, count_by}
use Rattle.evidence_laws.specs.ModelLaws.{TellsSame}
use Rattle.evidence_rules.specs.Meetings.{AreMeetingFigures, meetings_from}
use Rattle.evidence_rules.specs.Sharings.{AreVerdicts}
use Rattle.evidence_rules.specs.declared.between.Between.{Between}
use Rattle.trace_types.specs.Parts.{Parts}
use Rattle.trace_types.specs.Refuting.{RefutesApart, RefutesBefore, RefutesExclusive}
use Rattle.trace_types.specs.SegmentLists.{NamesDiffer}

-- so many of the traces have the property
pub record AreSoMany {A : Type 0} (P : A → Type 0) (traces : List A) (n : ℕ) : Type 0 where
  pub verdicts : List Bool
  pub told : AreVerdicts P traces verdicts
  pub count : n ≡ count_by (λ v. v) verdicts

-- at least so many of the traces have the property
pub record AreAtLeast {A : Type 0} (P : A → Type 0) (least : ℕ) (traces : List A) : Type 0 where
  pub number : ℕ
  pub are : AreSoMany P traces number
  pub enough : least ≤ number

module _ {A S N T E : Type 0} (p : Parts A S N T E) where
  -- no trace has a name twice
  abbrev pub HaveNamesOnce : List A → Type 0
  HaveNamesOnce traces = All (λ t. NamesDiffer p.name (p.segments t)) traces

  -- the trace has both names, and does not refute that A happens before B
  abbrev pub BearsOut : N → N → A → Type 0
  BearsOut a b trace = RefutesApart p a b trace × (RefutesBefore p a b trace → ⊥)

  -- the figures of A and B are numbers of traces: of those that have both, of those that refute
  -- either order, of those that refute that they are mutually exclusive, and of those that bear out
  -- either order
  pub record CountTraces (traces : List A) (a b : N) (f : Between) : Type 0 where
    pub have_both : AreSoMany (RefutesApart p a b) traces f.traces
    pub early : AreSoMany (RefutesBefore p a b) traces f.early
    pub turned : AreSoMany (RefutesBefore p b a) traces f.turned
    pub both : AreSoMany (RefutesExclusive p a b) traces f.both
    pub first : AreSoMany (BearsOut a b) traces (f.traces - f.early)
    pub second : AreSoMany (BearsOut b a) traces (f.traces - f.turned)

  -- so it is where no trace has a name twice
  abbrev pub FiguresCountTraces : (N → N → Bool) → Type 0
  FiguresCountTraces same = TellsSame same → (traces : List A) (a b : N) (f : Between)
      → HaveNamesOnce traces → AreMeetingFigures (meetings_from p same a b 0 traces) f
      → CountTraces traces a b f
