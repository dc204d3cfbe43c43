-- The trace that a row of a relation which few traces refute names is the one that a certificate
-- names: statements that laws prove.
use Rattle.std.specs.Prelude.{◌≡◌, ◌≢◌, ℕ, ◌<◌, List, [], ◌∷◌, decimal}
use Rattle.certificates.specs.declared.matter.Matter.{Matter}
use Rattle.certificates.specs.declared.matter.Matter.TheVariants.{Before, Exclusive, Pipe}
use Rattle.evidence_rules.specs.Meetings.{AreMeetingFigures, meetings_from}
use Rattle.evidence_rules.specs.Sharings.{AreSharings}
use Rattle.evidence_rules.specs.declared.between.Between.{Between}
use Rattle.evidence_rules.specs.declared.sharing.Sharing.{Sharing}
use Rattle.segment_names.specs.Known.{same_name}
use Rattle.session_rules.specs.EvidenceTexts.{place_fields}
use Rattle.session_rules.specs.KeptTraces.{Kept, by_kept, day_of}
use Rattle.session_rules.specs.Refutations.{IsFirstToRefute}
use Rattle.trace_types.specs.Segments.{SegmentName}

-- a row that names the kept trace at this index names the first that refutes the relation, by its
-- day, its index among those of its day and its request
pub record IsWitness (kept : List Kept) (matter : Matter) (index : ℕ) : Type 0 where
  pub trace : Kept
  pub at : ℕ
  pub first : IsFirstToRefute kept matter trace at
  pub named : place_fields kept index
      ≡ decimal (day_of trace) ∷ decimal at ∷ trace.trace.request ∷ []

-- so it is for an order of two names that some traces refute
abbrev pub OrdersHaveWitnesses : Type 0
OrdersHaveWitnesses = (kept : List Kept) (a b : SegmentName) (f : Between) → a ≢ b
    → AreMeetingFigures (meetings_from by_kept same_name a b 0 kept) f → 0 < f.early
    → IsWitness kept (Before a b) f.first_early

-- for a mutual exclusion
abbrev pub ExclusionsHaveWitnesses : Type 0
ExclusionsHaveWitnesses = (kept : List Kept) (a b : SegmentName) (f : Between) → a ≢ b
    → AreMeetingFigures (meetings_from by_kept same_name a b 0 kept) f → 0 < f.both
    → IsWitness kept (Exclusive a b) f.first_both

-- and for a pipeline of two tasks
abbrev pub PipesHaveWitnesses : Type 0
PipesHaveWitnesses = (kept : List Kept) (t u : List ℕ) (f : Sharing) → t ≢ u
    → AreSharings by_kept kept t u f → 0 < f.refuted → IsWitness kept (Pipe t u) f.first_refuted
