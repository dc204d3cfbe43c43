-- The first kept trace that refutes a relation. Places and indices count from 0.
use Rattle.std.specs.Prelude.{◌≡◌, ◌⊎◌, ◌<◌, Some, List, slice_get}
use Rattle.day_partitions.specs.Books.{KeptDay}
use Rattle.hypothesis_index.specs.Refuting.{Refutes}
use Rattle.hypothesis_index.specs.declared.relation.Relation.{Relation}
use Rattle.trace_types.specs.declared.named_trace.NamedTrace.{NamedTrace}
use Rattle.counterexamples.specs.declared.finding.Finding.{Finding}

-- the trace is kept at this index of the day at this place
pub record StandsAt (days : List KeptDay) (f : Finding) (t : NamedTrace) : Type 0 where
  pub day : KeptDay
  pub kept : slice_get days f.place ≡ Some day
  pub trace : slice_get day.traces f.index ≡ Some t

-- the one stands before the other: on an earlier day, or on the same day at a lower index
abbrev pub StandsBefore : Finding → Finding → Type 0
StandsBefore g f = (g.place < f.place) ⊎ ((g.place ≡ f.place) × (g.index < f.index))

-- a kept trace stands there that refutes the relation, and none before it does
pub record IsFirstRefuter (days : List KeptDay) (r : Relation) (f : Finding) : Type 0 where
  pub trace : NamedTrace
  pub stands : StandsAt days f trace
  pub refutes : Refutes r trace
  pub first : (g : Finding) (t : NamedTrace) → StandsAt days g t → StandsBefore g f
      → Refutes r t → ⊥
