-- The names of the pieces of tasks. No two are one, and none is the name of another task.
use Rattle.std.specs.Prelude.{ℕ, zero, suc, ◌==◌, ◌+◌, ◌-◌, ◌&&◌, ◌++◌, List, Bool, not, nat_le}
use Rattle.std.specs.Prelude.{filter, take}
use Rattle.std.specs.Prelude.{length, codes, decimal, slice_index_or, if◌then◌else◌}
use Rattle.std.specs.List.{list_any, position_or_len, range_with_len}
use Rattle.std.specs.Str.{bytes_eq}

-- the byte is one of a character of UTF-8, but not its first
abbrev pub is_inner_byte : ℕ → Bool
is_inner_byte byte = nat_le 128 byte && nat_le byte 191

-- the greatest length up to n after which the text can be cut between characters
abbrev pub cut_length : List ℕ → ℕ → ℕ
cut_length text zero = 0
cut_length text (suc n) =
    if is_inner_byte (slice_index_or text (suc n) 0) then cut_length text n else suc n

-- a number sign
abbrev pub is_number_sign : ℕ → Bool
is_number_sign byte = byte == 35

-- what stands before the number of a piece: a task of at most 40 bytes without a number sign as it
-- is, and of any other one its first bytes, a number sign and its number
abbrev pub numbered_stem : ℕ → List ℕ → List ℕ
numbered_stem number task =
    if nat_le (length task) 40 && not (list_any is_number_sign task) then task
    else take (cut_length task 42) task ++ codes "#" ++ decimal number

-- the same, with its number among these tasks, from 1
abbrev pub stem_of : List (List ℕ) → List ℕ → List ℕ
stem_of tasks task = numbered_stem (position_or_len (bytes_eq task) tasks + 1) task

-- the name with this stem and number
abbrev pub numbered_name : List ℕ → ℕ → List ℕ
numbered_name stem number = stem ++ codes "/" ++ decimal number

-- no task has that name
abbrev pub is_free : List (List ℕ) → List ℕ → ℕ → Bool
is_free tasks stem number = not (list_any (bytes_eq (numbered_name stem number)) tasks)

-- the free numbers from 2 on, at least so many
abbrev pub free_numbers : List (List ℕ) → List ℕ → ℕ → List ℕ
free_numbers tasks stem count =
    filter (is_free tasks stem) (range_with_len 2 (count + length tasks))

-- the name of a piece of a task, from 1: the first is the task, and the others have the free numbers
-- in their order
abbrev pub piece_name : List (List ℕ) → List ℕ → ℕ → List ℕ
piece_name tasks task piece =
    if nat_le piece 1 then task
    else numbered_name (stem_of tasks task)
    (slice_index_or (free_numbers tasks (stem_of tasks task) piece) (piece - 2) 0)
