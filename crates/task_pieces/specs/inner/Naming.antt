-- Tasks by number, and the names of their pieces.
use Rattle.std.specs.Prelude.{ℕ, ◌≡◌, ◌-◌, ◌<◌, ◌≤◌, ◌+◌, ◌^◌, List, [], ◌∷◌, ◌++◌, Some, All}
use Rattle.std.specs.Prelude.{filter, length, map, slice_get}
use Rattle.std.specs.Prelude.{if◌then◌else◌, slice_index_or}
use Rattle.std.specs.List.{list_any, range_with_len}
use Rattle.std.specs.Str.{bytes_eq}
use Rattle.task_pieces.specs.PieceNames.{is_free, numbered_name, piece_name}
use Rattle.task_pieces.specs.declared.task_key.TaskKey.{TaskKey}

-- the texts with one more at the end, unless it is there
abbrev pub with_text : List (List ℕ) → List ℕ → List (List ℕ)
with_text texts text = if list_any (bytes_eq text) texts then texts else texts ++ text ∷ []

-- the numbers of the tasks of keys
pub record AreNumbers (tasks : List (List ℕ)) (keys : List TaskKey) (numbers : List ℕ)
    : Type 0 where
  pub size : length numbers ≡ length keys
  pub told : (i : ℕ) (d : TaskKey) → i < length keys
      → slice_get tasks (slice_index_or numbers i 0) ≡ Some (slice_index_or keys i d).task.now

-- for each of so many numbers the greatest piece at least
pub record AreGreatest (numbers pieces : List ℕ) (count : ℕ) (most : List ℕ) : Type 0 where
  pub size : length most ≡ count
  pub covers : (i : ℕ) → i < length numbers
      → slice_index_or pieces i 0 ≤ slice_index_or most (slice_index_or numbers i 0) 0
  pub within : (bound : ℕ) → All (λ piece. piece ≤ bound) pieces → All (λ piece. piece ≤ bound) most

-- the names of the first pieces of a task
pub record AreNames (tasks : List (List ℕ)) (task : List ℕ) (count : ℕ) (names : List (List ℕ))
    : Type 0 where
  pub size : count ≤ length names
  pub some : 0 < length names
  pub named : (piece : ℕ) → 0 < piece → piece ≤ length names
      → slice_index_or names (piece - 1) [] ≡ piece_name tasks task piece

-- the same of each task
pub record AreAllNames (tasks : List (List ℕ)) (most : List ℕ) (count : ℕ)
    (names : List (List (List ℕ))) : Type 0 where
  pub size : length names ≡ count
  pub named : (number : ℕ) → number < count
      → AreNames tasks (slice_index_or tasks number []) (slice_index_or most number 0)
      (slice_index_or names number [])

-- the names of events, by the numbers of their tasks and by their pieces
abbrev pub names_under : List (List (List ℕ)) → (numbers pieces : List ℕ) → List (List ℕ)
names_under names numbers pieces = map (λ i. slice_index_or
    (slice_index_or names (slice_index_or numbers i 0) []) (slice_index_or pieces i 0 - 1) [])
    (range_with_len 0 (length numbers))

-- each of them is there
pub record AreThere (names : List (List (List ℕ))) (numbers pieces : List ℕ) : Type 0 where
  pub size : length pieces ≡ length numbers
  pub number : (i : ℕ) → i < length numbers → slice_index_or numbers i 0 < length names
  pub some : (i : ℕ) → i < length numbers → 0 < slice_index_or pieces i 0
  pub piece : (i : ℕ) → i < length numbers
      → slice_index_or pieces i 0 - 1
      < length (slice_index_or names (slice_index_or numbers i 0) [])

-- names with free numbers were appended, in order, up to so many in all
pub record HasFreeNames (tasks : List (List ℕ)) (stem : List ℕ) (count : ℕ)
    (old new : List (List ℕ)) : Type 0 where
  pub numbers : ℕ
  pub grown : new ≡ old ++ map (numbered_name stem)
      (filter (is_free tasks stem) (range_with_len 2 numbers))
  pub enough : count ≤ length new
  pub few : numbers + length new < 2 ^ 63
