-- The first refuters of all relations of a book, by the places of the relations. Words and bits
-- count from 0.
use Rattle.std.specs.Prelude.{◌≡◌, ◌↔◌, ℕ, List, [], Option, None, IfSome, slice_index_or}
use Rattle.day_partitions.specs.Books.{KeptDay, all_traces}
use Rattle.hypothesis_index.specs.Places.{IsRelation, NamesBelow, place_of}
use Rattle.hypothesis_index.specs.Refuting.{Refutes}
use Rattle.hypothesis_index.specs.declared.relation.Relation.{Relation}
use Rattle.trace_types.specs.Surviving.{Survives}
use Rattle.counterexamples.specs.Findings.{IsFirstRefuter}
use Rattle.counterexamples.specs.declared.finding.Finding.{Finding}

-- for each word, and each of its bits, a finding or none
abbrev pub FindingTable : Type 0
FindingTable = List (List (Option Finding))

-- the finding that a table has for a relation
abbrev pub refuter_of : FindingTable → Relation → Option Finding
refuter_of table r =
    slice_index_or (slice_index_or table (place_of r).word []) (place_of r).bit None

-- the finding is the first refuter of the relation among the kept traces, and there is none exactly
-- where the relation survives them
pub record IsRefuterOf (days : List KeptDay) (r : Relation) (found : Option Finding) : Type 0 where
  pub none : (found ≡ None) ↔ Survives (Refutes r) (all_traces days)
  pub first : IfSome found (IsFirstRefuter days r)

-- the table has the first refuter of each relation of tasks, and of names below this number
abbrev pub AreFirstRefuters : ℕ → List KeptDay → FindingTable → Type 0
AreFirstRefuters names days table = (r : Relation) → IsRelation r → NamesBelow names r
    → IsRefuterOf days r (refuter_of table r)
