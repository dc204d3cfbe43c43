-- What a certificate leaves out survives: a statement that a law proves.
use Rattle.std.specs.Prelude.{List, Contains}
use Rattle.certificates.specs.declared.matter.Matter.{Matter}
use Rattle.certificates.specs.declared.matter.Matter.TheVariants.{Before, Exclusive, Pipe}
use Rattle.session_rules.specs.KeptTraces.{Kept}
use Rattle.session_rules.specs.Refutations.{AreRefutations, Refutations, RefutesMatter, matters_of}
use Rattle.trace_types.specs.Surviving.{Survives}

-- the relation is none of these; an exclusive pair is there in neither order
abbrev pub HasNoLine : List Matter → Matter → Type 0
HasNoLine matters (Before a b) = Contains matters (Before a b) → ⊥
HasNoLine matters (Exclusive a b) =
    (Contains matters (Exclusive a b) → ⊥) × (Contains matters (Exclusive b a) → ⊥)
HasNoLine matters (Pipe t u) = Contains matters (Pipe t u) → ⊥

-- a relation that is not among the refuted ones survives the kept traces
abbrev pub WhatHasNoLineSurvives : Type 0
WhatHasNoLineSurvives = (kept : List Kept) (refuted : Refutations) (matter : Matter)
    → AreRefutations kept refuted → HasNoLine (matters_of refuted) matter
    → Survives (RefutesMatter matter) kept
