-- Events as their tasks see them.
use Rattle.std.specs.Prelude.{ℕ, ◌==◌, ◌&&◌, ◌||◌, List, Bool, nat_lt}
use Rattle.std.specs.Str.{bytes_eq}

-- an event: the number of its batch, its request and its task, its time in nanoseconds, its index
-- among all events, from 0, and whether it sends and receives a message
pub record TaskEvent : Type 0 where
  pub batch : ℕ
  pub request : List ℕ
  pub task : List ℕ
  pub time : ℕ
  pub index : ℕ
  pub sends : Bool
  pub receives : Bool

-- two events are of one task of one request, as one trace has it
abbrev pub are_of_one_task : TaskEvent → TaskEvent → Bool
are_of_one_task a b =
    a.batch == b.batch && (bytes_eq a.request b.request && bytes_eq a.task b.task)

-- the first is earlier; of one time the first line is earlier
abbrev pub is_earlier : TaskEvent → TaskEvent → Bool
is_earlier a b = nat_lt a.time b.time || (a.time == b.time && nat_lt a.index b.index)

-- the first is of the task of the second, and earlier
abbrev pub is_before : TaskEvent → TaskEvent → Bool
is_before a b = are_of_one_task a b && is_earlier a b
