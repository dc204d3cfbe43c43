-- The statement that belongs to a relation: what a trace refutes whose names, tasks and elements
-- are numbers.
use Rattle.std.specs.Prelude.{◌≡◌, ℕ}
use Rattle.trace_types.specs.declared.named_trace.NamedTrace.{NamedTrace}
use Rattle.trace_types.specs.Parts.{by_number}
use Rattle.trace_types.specs.Pipelines.{RefutesPipe, RefutesUnshared}
use Rattle.trace_types.specs.Refuting.{RefutesBefore, RefutesExclusive, RefutesApart}
use Rattle.hypothesis_index.specs.declared.relation.Relation.{Relation}
use Rattle.hypothesis_index.specs.declared.relation.Relation.TheVariants.{Before, Exclusive, Apart}
use Rattle.hypothesis_index.specs.declared.relation.Relation.TheVariants.{Pipe, Unshared}
use Rattle.hypothesis_index.specs.Places.{IsRelation, place_of}

-- the trace refutes the relation
abbrev pub Refutes : Relation → NamedTrace → Type 0
Refutes (Before a b) trace = RefutesBefore by_number a b trace
Refutes (Exclusive a b) trace = RefutesExclusive by_number a b trace
Refutes (Apart a b) trace = RefutesApart by_number a b trace
Refutes (Pipe t u) trace = RefutesPipe by_number t u trace
Refutes (Unshared t u) trace = RefutesUnshared by_number t u trace

-- the relation is one between names, and the trace refutes it
abbrev pub RefutesNames : Relation → NamedTrace → Type 0
RefutesNames (Before a b) trace = Refutes (Before a b) trace
RefutesNames (Exclusive a b) trace = Refutes (Exclusive a b) trace
RefutesNames (Apart a b) trace = Refutes (Apart a b) trace
RefutesNames (Pipe t u) trace = ⊥
RefutesNames (Unshared t u) trace = ⊥

-- the relation is one between tasks, and the trace refutes it
abbrev pub RefutesTasks : Relation → NamedTrace → Type 0
RefutesTasks (Before a b) trace = ⊥
RefutesTasks (Exclusive a b) trace = ⊥
RefutesTasks (Apart a b) trace = ⊥
RefutesTasks (Pipe t u) trace = Refutes (Pipe t u) trace
RefutesTasks (Unshared t u) trace = Refutes (Unshared t u) trace

-- this bit is the place of a relation with this property
abbrev pub IsPlaceOfSome : (Relation → Type 0) → ℕ → ℕ → Type 0
IsPlaceOfSome P word bit =
    (r : Relation) × IsRelation r × (place_of r ≡ record { word = word; bit = bit }) × P r
