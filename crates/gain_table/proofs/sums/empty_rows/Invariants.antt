use Rattle.std.proofs.Common.{◌≡◌, ◌<◌, ℕ, length}
use Rattle.gain_table.specs.inner.Growing.{empty_row, row_at}
use Rattle.gain_table.proofs.sums.empty_rows.Given as goal

-- the rows of the names so far
abbrev pub invariant-names : goal.invariant-names
invariant-names l = record {
  count : length l.rows.items ≡ l.name;
  each : (name : ℕ) → name < l.name → row_at l.rows.items name ≡ empty_row name;
}
