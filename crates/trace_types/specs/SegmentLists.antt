-- Facts on the segments of a trace, whatever their names and tasks are. Indices count from 0.
use Rattle.std.specs.Prelude.{◌≡◌, ◌≢◌, ℕ, ◌<◌, nat_eq, ℤ, Option, List, length, slice_index_or}
use Rattle.std.specs.List.{AllPairs, AllAdjacentBelow, filter_map}
use Rattle.trace_types.specs.Firsts.{firsts_of}

-- no two segments have one name
abbrev pub NamesDiffer : {S N : Type 0} → (S → N) → List S → Type 0
NamesDiffer name segments = AllPairs (λ s t. name s ≢ name t) segments

-- between two segments of one task there are only segments of that task
abbrev pub TasksStandTogether : {S T : Type 0} → (S → T) → List S → Type 0
TasksStandTogether {S} task segments = (i j k : ℕ) (d : S) → i < j → j < k → k < length segments
    → task (slice_index_or segments i d) ≡ task (slice_index_or segments k d)
    → task (slice_index_or segments j d) ≡ task (slice_index_or segments k d)

-- of two neighbours of one task the first ends where the second starts
abbrev pub JoinInTasks : {S T : Type 0} → (S → T) → (S → ℤ) → (S → ℤ) → List S → Type 0
JoinInTasks task start end segments =
    AllAdjacentBelow (λ s t. task s ≡ task t → end s ≡ start t) segments (length segments)

-- the numbers of elements are 0, 1, 2 and so on, in the order of their first occurrences
abbrev pub ElementsCountUp : {S : Type 0} → (S → Option ℕ) → List S → Type 0
ElementsCountUp element segments =
    (k : ℕ) → k < length (firsts_of nat_eq (filter_map element segments))
    → slice_index_or (firsts_of nat_eq (filter_map element segments)) k 0 ≡ k
