-- Rows that are made of two tables by the numbers of names: of the durations on the critical paths
-- of slow traces, and of those on the rest.
use Rattle.std.specs.Prelude.{◌≡◌, ℕ, ◌<◌, List, length, sum}
use Rattle.trace_paths.specs.Tables.{list_at}
use Rattle.slow_tail.specs.declared.tail_row.TailRow.{TailRow}

-- the row of a name, by the lists of the name
pub record IsTailRowFrom (slow rest : List (List ℕ)) (row : TailRow) : Type 0 where
  pub below : row.name < length slow
  pub slow_on : row.slow_on ≡ length (list_at slow row.name)
  pub slow_sum : row.slow_sum ≡ sum (list_at slow row.name)
  pub rest_on : row.rest_on ≡ length (list_at rest row.name)
  pub rest_sum : row.rest_sum ≡ sum (list_at rest row.name)
