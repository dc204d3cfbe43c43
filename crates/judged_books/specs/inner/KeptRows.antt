-- The rows of marks of listed texts, by the words of a book.
use Rattle.std.specs.Prelude.{ℕ, ◌==◌, false, List, [], ◌∷◌, ◌++◌, map}
use Rattle.hypothesis_index.specs.declared.relation.Relation.TheVariants.{Before, Exclusive, Apart}
use Rattle.hypothesis_index.specs.declared.relation.Relation.TheVariants.{Pipe, Unshared}
use Rattle.model_meet.specs.RelationBits.{bit_between, relation_bit}
use Rattle.digest_facts.specs.Tables.{pair_byte}

-- the mark of two names with these numbers: what the words lack is refuted
abbrev pub name_mark : List ℕ → ℕ → ℕ → ℕ
name_mark words m n = pair_byte (bit_between words Apart m n == 0)
    (relation_bit words (Before m n) == 0) (relation_bit words (Before n m) == 0)
    (bit_between words Exclusive m n == 0)

-- the mark of two tasks
abbrev pub task_mark : List ℕ → ℕ → ℕ → ℕ
task_mark words t u = pair_byte (bit_between words Unshared t u == 0)
    (relation_bit words (Pipe t u) == 0) (relation_bit words (Pipe u t) == 0) false

-- each text with a mark for each one before it, by their numbers
abbrev pub marked_rows : {X : Type 0} → (ℕ → ℕ → ℕ) → List (X × ℕ) → List (X × ℕ)
    → List (X × List ℕ)
marked_rows mark earlier [] = []
marked_rows mark earlier (item ∷ items) =
    (item.0, map (λ i. mark i.1 item.1) earlier) ∷ marked_rows mark (earlier ++ item ∷ []) items
