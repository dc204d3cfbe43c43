-- Which relations of numbers the marks of a table's rows tell: the number of a name is its place, and
-- so is that of a task.
use Rattle.std.specs.Prelude.{◌≡◌, ◌⊎◌, ℕ, ◌+◌, ◌-◌, ◌/◌, ◌%◌, ◌≤◌, ◌==◌, Bool, true, not, max, List, length}
use Rattle.std.specs.Prelude.{Some, slice_get}
use Rattle.hypothesis_index.specs.Places.{pair_number}
use Rattle.hypothesis_index.specs.declared.relation.Relation.{Relation}
use Rattle.hypothesis_index.specs.declared.relation.Relation.TheVariants.{Before, Exclusive, Apart}
use Rattle.hypothesis_index.specs.declared.relation.Relation.TheVariants.{Pipe, Unshared}

-- some trace has both; the first order is refuted; the other is; mutual exclusion is
abbrev pub tells_both : ℕ → Bool
tells_both mark = not (mark == 46)

abbrev pub tells_before : ℕ → Bool
tells_before mark = (mark - 48) % 2 == 1

abbrev pub tells_after : ℕ → Bool
tells_after mark = (mark - 48) / 2 % 2 == 1

abbrev pub tells_exclusive : ℕ → Bool
tells_exclusive mark = (mark - 48) / 4 == 1

-- the word of a pair of names, and of a pair of tasks
abbrev pub name_word : ℕ → ℕ → ℕ
name_word low high = 126 + pair_number low high / 16

abbrev pub task_word : ℕ → ℕ → ℕ
task_word low high = pair_number low high / 16

-- how many words the first pairs of names fill, and those of tasks; at least one
abbrev pub name_width : ℕ → ℕ
name_width pairs = 126 + (pairs + 15) / 16

abbrev pub task_width : ℕ → ℕ
task_width pairs = max 1 ((pairs + 15) / 16)

-- the mark of these two names tells that the relation is refuted
abbrev pub TellsOfNames : ℕ → ℕ → ℕ → Relation → Type 0
TellsOfNames low high mark (Before a b) =
    ((a ≡ low) × (b ≡ high) × (tells_before mark ≡ true))
    ⊎ ((a ≡ high) × (b ≡ low) × (tells_after mark ≡ true))
TellsOfNames low high mark (Exclusive a b) =
    (a ≡ low) × (b ≡ high) × (tells_exclusive mark ≡ true)
TellsOfNames low high mark (Apart a b) = (a ≡ low) × (b ≡ high) × (tells_both mark ≡ true)
TellsOfNames low high mark (Pipe t u) = ⊥
TellsOfNames low high mark (Unshared t u) = ⊥

-- the mark of these two tasks tells it
abbrev pub TellsOfTasks : ℕ → ℕ → ℕ → Relation → Type 0
TellsOfTasks low high mark (Before a b) = ⊥
TellsOfTasks low high mark (Exclusive a b) = ⊥
TellsOfTasks low high mark (Apart a b) = ⊥
TellsOfTasks low high mark (Pipe t u) =
    ((t ≡ low) × (u ≡ high) × (tells_before mark ≡ true))
    ⊎ ((t ≡ high) × (u ≡ low) × (tells_after mark ≡ true))
TellsOfTasks low high mark (Unshared t u) =
    (t ≡ low) × (u ≡ high) × (tells_both mark ≡ true)

-- some mark of a row tells it; the mark at index low is that of low and high
abbrev pub RowTells : (ℕ → ℕ → ℕ → Relation → Type 0) → ℕ → List ℕ → Relation → Type 0
RowTells Tells high marks r =
    (low : ℕ) × (mark : ℕ) × (slice_get marks low ≡ Some mark) × Tells low high mark r

-- some row tells it
abbrev pub RowsTell : {X : Type 0} → (ℕ → ℕ → ℕ → Relation → Type 0) → List (X × List ℕ) → Relation
    → Type 0
RowsTell {X} Tells rows r = (high : ℕ) × (row : X × List ℕ) × (slice_get rows high ≡ Some row)
    × RowTells Tells high row.1 r

-- each row has a mark for each row before it, and the rows are at most so many
pub record AreTriangle {X : Type 0} (most : ℕ) (rows : List (X × List ℕ)) : Type 0 where
  pub few : length rows ≤ most
  pub each : (k : ℕ) (row : X × List ℕ) → slice_get rows k ≡ Some row → length row.1 ≡ k
