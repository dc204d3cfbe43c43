-- What the words of the survivors of a list of traces tell.
use Rattle.std.specs.Prelude.{◌≡◌, ◌↔◌, ℕ, ◌≤◌, List, length}
use Rattle.hypothesis_index.specs.Places.{IsRelation, NamesBelow, width_of}
use Rattle.hypothesis_index.specs.Refuting.{Refutes}
use Rattle.hypothesis_index.specs.declared.relation.Relation.{Relation}
use Rattle.model_meet.specs.RelationBits.{relation_bit}
use Rattle.refute_tests.specs.Survivors.{AreSurvivors}
use Rattle.trace_types.specs.declared.named_trace.NamedTrace.{NamedTrace}
use Rattle.trace_types.specs.Surviving.{Survives, IsRefuted}

-- the words tell of the relation whether it survives the traces or some of them refutes it
pub record TellsOf (words : List ℕ) (traces : List NamedTrace) (r : Relation) : Type 0 where
  pub survives : (relation_bit words r ≡ 1) ↔ Survives (Refutes r) traces
  pub refuted : (relation_bit words r ≡ 0) ↔ IsRefuted (Refutes r) traces

-- words that are as wide as some names ask tell of every relation between these, and between tasks
abbrev pub WordsTell : Type 0
WordsTell = (traces : List NamedTrace) (words : List ℕ) (names : ℕ) → names ≤ 512
    → length words ≡ width_of names → AreSurvivors traces words
    → (r : Relation) → IsRelation r → NamesBelow names r → TellsOf words traces r
