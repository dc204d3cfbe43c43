-- Which bits the row of a trace clears.
use Rattle.std.specs.Prelude.{List, [], ◌∷◌}
use Rattle.hypothesis_index.specs.Refuting.{Refutes}
use Rattle.hypothesis_index.specs.declared.relation.Relation.{Relation}
use Rattle.refute_tests.specs.Clearing.{ClearsExactly}
use Rattle.trace_types.specs.declared.named_trace.NamedTrace.{NamedTrace}
use Rattle.word_rows.specs.declared.entries.Entry.{Entry}

-- the row clears exactly the places of the relations that the trace refutes
abbrev pub IsWholeRow : NamedTrace → List Entry → Type 0
IsWholeRow trace row = ClearsExactly row (λ (r : Relation). Refutes r trace)

-- there is one row for each trace, in order, and each is a whole row of its trace
abbrev pub AreWholeRows : List NamedTrace → List (List Entry) → Type 0
AreWholeRows [] [] = Unit {0}
AreWholeRows [] (row ∷ rows) = ⊥
AreWholeRows (trace ∷ traces) [] = ⊥
AreWholeRows (trace ∷ traces) (row ∷ rows) = IsWholeRow trace row × AreWholeRows traces rows
