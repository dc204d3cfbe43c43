-- The first of a list of traces that refutes a relation.
use Rattle.std.specs.Prelude.{◌≡◌, ℕ, Some, List, slice_get, take}
use Rattle.hypothesis_index.specs.Refuting.{Refutes}
use Rattle.hypothesis_index.specs.declared.relation.Relation.{Relation}
use Rattle.trace_types.specs.Surviving.{Survives}
use Rattle.trace_types.specs.declared.named_trace.NamedTrace.{NamedTrace}

-- the trace at this index refutes the relation, and none before it does
pub record IsFirstOf (r : Relation) (traces : List NamedTrace) (index : ℕ) : Type 0 where
  pub trace : NamedTrace
  pub here : slice_get traces index ≡ Some trace
  pub refutes : Refutes r trace
  pub none : Survives (Refutes r) (take index traces)
