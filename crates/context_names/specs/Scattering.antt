-- Values by number.
use Rattle.std.specs.Prelude.{ℕ, ◌==◌, List, slice_index}
use Rattle.std.specs.List.{position_or_len}
use Rattle.call_trees.specs.Tables.{table_of}

-- the value of a number, where these numbers have these values: of a number that comes twice the
-- first counts, and one that does not come has 0
abbrev pub value_of : (numbers values : List ℕ) → ℕ → ℕ
value_of numbers values x = slice_index values (position_or_len (λ n. n == x) numbers)

-- the value of each number below a bound
abbrev pub scattered : ℕ → (numbers values : List ℕ) → List ℕ
scattered count numbers values = table_of (value_of numbers values) count
