-- Which relations no trace of a list refutes, as bits of words.
use Rattle.std.specs.Prelude.{◌≡◌, ℕ, ◌<◌, ◌↔◌, List, length}
use Rattle.hypothesis_index.specs.Refuting.{IsPlaceOfSome, Refutes}
use Rattle.hypothesis_index.specs.declared.relation.Relation.{Relation}
use Rattle.trace_types.specs.declared.named_trace.NamedTrace.{NamedTrace}
use Rattle.trace_types.specs.Surviving.{IsRefuted}
use Rattle.word_rows.specs.Words.{AreWords, bit_of}

-- this bit is the place of a relation that some trace of the list refutes
abbrev pub IsRefutedPlace : List NamedTrace → ℕ → ℕ → Type 0
IsRefutedPlace traces word bit =
    IsPlaceOfSome (λ (r : Relation). IsRefuted (Refutes r) traces) word bit

-- a bit of these words is 0 exactly where it is the place of a relation that some trace of the list
-- refutes
abbrev pub LackRefuted : List NamedTrace → List ℕ → Type 0
LackRefuted traces words = (i b : ℕ) → i < length words → b < 64
    → (bit_of words i b ≡ 0) ↔ IsRefutedPlace traces i b

-- words of 64 bits that lack exactly what the traces of the list refute
pub record AreSurvivors (traces : List NamedTrace) (words : List ℕ) : Type 0 where
  pub bound : AreWords words
  pub bits : LackRefuted traces words
