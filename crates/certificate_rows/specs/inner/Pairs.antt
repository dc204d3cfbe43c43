-- The pairs of numbers that are asked for a kind of relations, and which of them are refuted.
use Rattle.std.specs.Prelude.{ℕ, ◌==◌, if◌then◌else◌, min, max, Option, None, List, [], ◌∷◌, ◌++◌}
use Rattle.std.specs.Prelude.{map, filter, is_some}
use Rattle.counterexamples.specs.FirstRefuters.{FindingTable, refuter_of}
use Rattle.counterexamples.specs.declared.finding.Finding.{Finding}
use Rattle.hypothesis_index.specs.declared.relation.Relation as relation
use Rattle.hypothesis_index.specs.declared.relation.Relation.{Relation}
use Rattle.certificate_rows.specs.declared.kind.Kind.{Kind}
use Rattle.certificate_rows.specs.declared.kind.Kind.TheVariants.{Before, Exclusive, Pipe}

-- numbers of names are below 512, and numbers of tasks below 64
abbrev pub number_limit : Kind → ℕ
number_limit Before = 512
number_limit Exclusive = 512
number_limit Pipe = 64

-- the relation of a kind between two numbers
abbrev pub relation_of_kind : Kind → ℕ → ℕ → Relation
relation_of_kind Before one other = relation.TheVariants.Before one other
relation_of_kind Exclusive one other =
    relation.TheVariants.Exclusive (min one other) (max one other)
relation_of_kind Pipe one other = relation.TheVariants.Pipe one other

-- its first refuter; a number has none with itself
abbrev pub refuter_between : FindingTable → Kind → ℕ → ℕ → Option Finding
refuter_between table kind one other =
    if one == other then None else refuter_of table (relation_of_kind kind one other)

-- the numbers that are asked beside one, of all numbers and of those after it
abbrev pub seconds_of : Kind → List ℕ → List ℕ → List ℕ
seconds_of Before all later = all
seconds_of Exclusive all later = later
seconds_of Pipe all later = all

-- the pairs of a number with others
abbrev pub pairs_with : ℕ → List ℕ → List (ℕ × ℕ)
pairs_with one others = map (λ other. (one, other)) others

-- the pairs whose first is one of the last numbers of all
abbrev pub pairs_of : Kind → List ℕ → List ℕ → List (ℕ × ℕ)
pairs_of kind all [] = []
pairs_of kind all (one ∷ later) =
    pairs_with one (seconds_of kind all later) ++ pairs_of kind all later

-- the pairs whose relation has a refuter
abbrev pub refuted_pairs : FindingTable → Kind → List (ℕ × ℕ) → List (ℕ × ℕ)
refuted_pairs table kind pairs = filter (λ p. is_some (refuter_between table kind p.0 p.1)) pairs
