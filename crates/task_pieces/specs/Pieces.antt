-- The pieces into which tasks are cut where they wait.
use Rattle.std.specs.Prelude.{ℕ, ◌+◌, ◌==◌, ◌&&◌, ◌||◌, List, Bool, not, map}
use Rattle.std.specs.List.{count_by, list_any}
use Rattle.task_pieces.specs.TaskEvents.{TaskEvent, is_before}

-- the first is the last event of the second's task that is before it
abbrev pub is_right_before : List TaskEvent → TaskEvent → TaskEvent → Bool
is_right_before all a b =
    is_before a b && not (list_any (λ c. is_before a c && is_before c b) all)

-- the event receives a message, and the one right before it sends one: the task waited between them
abbrev pub ends_wait : List TaskEvent → TaskEvent → Bool
ends_wait all b = b.receives && list_any (λ a. a.sends && is_right_before all a b) all

-- the piece of its task that an event is in, from 1: an event that ends a wait begins the next one
abbrev pub piece_of : List TaskEvent → TaskEvent → ℕ
piece_of all b =
    1 + count_by (λ c. ends_wait all c && (c.index == b.index || is_before c b)) all

-- the piece of each event
abbrev pub pieces_of : List TaskEvent → List ℕ
pieces_of all = map (piece_of all) all
