-- How pieces are numbered along keys in order.
use Rattle.std.specs.Prelude.{ℕ, ◌≡◌, ◌<◌, ◌+◌, ◌-◌, ◌&&◌, List, cond, length, All}
use Rattle.std.specs.Prelude.{if◌then◌else◌, slice_index_or}
use Rattle.task_pieces.specs.Pieces.{piece_of}
use Rattle.task_pieces.specs.TaskEvents.{TaskEvent, are_of_one_task}
use Rattle.task_pieces.specs.TaskKeys.{event_of_key, events_of_keys}
use Rattle.task_pieces.specs.declared.task_key.TaskKey.{TaskKey}
use Rattle.task_pieces.specs.inner.Orders.{IsInOrder}

-- the piece of an event, by that of the event of the key before it
abbrev pub next_piece : ℕ → TaskEvent → TaskEvent → ℕ
next_piece piece before event =
    if are_of_one_task before event then piece + cond (event.receives && before.sends) 1 0 else 1

-- keys by task, time and index, whose indexes are different and below their number
pub record IsSorting (order : List TaskKey) : Type 0 where
  pub ordered : IsInOrder (events_of_keys order)
  pub within : All (λ (k : TaskKey). k.index < length order) order

-- the piece of the event of the key at a place
abbrev pub piece_at : List TaskKey → ℕ → TaskKey → ℕ
piece_at order at d = piece_of (events_of_keys order) (event_of_key (slice_index_or order at d))

-- the pieces of the first keys stand at their indexes
abbrev pub ArePlaced : List TaskKey → ℕ → List ℕ → Type 0
ArePlaced order count pieces = (at : ℕ) (d : TaskKey) → at < count
    → slice_index_or pieces (slice_index_or order at d).index 0 ≡ piece_at order at d

-- this is the piece of the key before a place, if there is one
abbrev pub IsPieceBefore : List TaskKey → ℕ → ℕ → Type 0
IsPieceBefore order at piece = (d : TaskKey) → 0 < at → piece ≡ piece_at order (at - 1) d
