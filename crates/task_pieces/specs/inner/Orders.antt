-- Events by task, time and index.
use Rattle.std.specs.Prelude.{ℕ, ◌≡◌, ◌<◌, ◌≤◌, ◌==◌, List, true, false, length, slice_index_or}
use Rattle.std.specs.Cmp.Lexicographic.{slice_cmp}
use Rattle.std.specs.Ordering.{is_lt, nat_cmp}
use Rattle.task_pieces.specs.TaskEvents.{TaskEvent}

-- two events are of one task of one request
pub record OneTask (a b : TaskEvent) : Type 0 where
  pub batch : a.batch ≡ b.batch
  pub request : a.request ≡ b.request
  pub task : a.task ≡ b.task

-- the first does not stand after the second
pub record IsUpTo (x y : TaskEvent) : Type 0 where
  pub batch : x.batch ≤ y.batch
  pub request : x.batch ≡ y.batch → is_lt (slice_cmp nat_cmp y.request x.request) ≡ false
  pub task : x.batch ≡ y.batch → x.request ≡ y.request
      → is_lt (slice_cmp nat_cmp y.task x.task) ≡ false
  pub time : OneTask x y → x.time ≤ y.time
  pub index : OneTask x y → x.time ≡ y.time → x.index ≤ y.index

-- each event is up to those behind it, and no two have one index
pub record IsInOrder (events : List TaskEvent) : Type 0 where
  pub upto : (i j : ℕ) (d : TaskEvent) → i ≤ j → j < length events
      → IsUpTo (slice_index_or events i d) (slice_index_or events j d)
  pub apart : (i j : ℕ) (d : TaskEvent) → i < length events → j < length events
      → ((slice_index_or events i d).index == (slice_index_or events j d).index) ≡ true → i ≡ j
