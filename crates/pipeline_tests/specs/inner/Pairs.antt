-- The relations of pairs of tasks.
use Rattle.std.specs.Prelude.{◌≡◌, ◌⊎◌, ℕ, ◌/◌, ◌==◌, Bool, not, ◌&&◌, ◌||◌, List, length}
use Rattle.std.specs.List.{list_any}
use Rattle.hypothesis_index.specs.Places.{pair_number, pairs_below}
use Rattle.hypothesis_index.specs.declared.relation.Relation.{Relation}
use Rattle.hypothesis_index.specs.declared.relation.Relation.TheVariants.{Before, Exclusive, Apart}
use Rattle.hypothesis_index.specs.declared.relation.Relation.TheVariants.{Pipe, Unshared}
use Rattle.pipeline_tests.specs.declared.groups.TaskStays.{TaskStays}
use Rattle.pipeline_tests.specs.inner.Groups.{HasTask}
use Rattle.pipeline_tests.specs.inner.Meetings.{Meeting, takes_early, turns}
use Rattle.refute_tests.specs.Clearing.{is_at}

-- the word of the pair i < j
abbrev pub task_word : ℕ → ℕ → ℕ
task_word i j = pair_number i j / 16

-- the word of the first pair of j
abbrev pub task_start : ℕ → ℕ
task_start j = pairs_below j / 16

-- the relation is of these two tasks, the lesser first
abbrev pub IsBetween : ℕ → ℕ → Relation → Type 0
IsBetween low high (Before a b) = ⊥
IsBetween low high (Exclusive a b) = ⊥
IsBetween low high (Apart a b) = ⊥
IsBetween low high (Pipe t u) = ((t ≡ low) × (u ≡ high)) ⊎ ((t ≡ high) × (u ≡ low))
IsBetween low high (Unshared t u) = (t ≡ low) × (u ≡ high)

-- the relation is of this task and that of a group before it
abbrev pub IsWithBefore : List TaskStays → ℕ → Relation → Type 0
IsWithBefore before high (Before a b) = ⊥
IsWithBefore before high (Exclusive a b) = ⊥
IsWithBefore before high (Apart a b) = ⊥
IsWithBefore before high (Pipe t u) =
    (HasTask before t × (u ≡ high)) ⊎ ((t ≡ high) × HasTask before u)
IsWithBefore before high (Unshared t u) = HasTask before t × (u ≡ high)

-- the relation is of the tasks of two of the groups
abbrev pub IsAmong : List TaskStays → Relation → Type 0
IsAmong groups (Before a b) = ⊥
IsAmong groups (Exclusive a b) = ⊥
IsAmong groups (Apart a b) = ⊥
IsAmong groups (Pipe t u) = HasTask groups t × HasTask groups u
IsAmong groups (Unshared t u) = HasTask groups t × HasTask groups u

-- the bits that two tasks refute, given the elements that both handle
abbrev pub pair_hits : ℕ → List Meeting → ℕ → ℕ → ℕ → ℕ → Bool
pair_hits grace met low high i b =
    (((list_any (λ (m : Meeting). takes_early grace m.low m.high) met || turns met)
    && is_at (Pipe low high) i b)
    || ((list_any (λ (m : Meeting). takes_early grace m.high m.low) met || turns met)
    && is_at (Pipe high low) i b))
    || (not (length met == 0) && is_at (Unshared low high) i b)
