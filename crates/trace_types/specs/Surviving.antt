-- Relations over a list of traces: every one is a hypothesis, and one trace refutes it.
use Rattle.std.specs.Prelude.{List, All, Any}

-- no trace of the list refutes the relation
abbrev pub Survives : {A : Type 0} → (A → Type 0) → List A → Type 0
Survives refutes traces = All (λ t. refutes t → ⊥) traces

-- some trace of the list refutes the relation
abbrev pub IsRefuted : {A : Type 0} → (A → Type 0) → List A → Type 0
IsRefuted refutes traces = Any refutes traces
