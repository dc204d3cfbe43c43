use Rattle.std.proofs.Common.{◌≡◌, ℕ, ◌+◌, ◌&&◌, ◌||◌, nat_lt, true}
use Rattle.refute_tests.specs.inner.Marks.{table_clears}
use Rattle.word_rows.specs.Rows.{below, clears}
use Rattle.refute_tests.proofs.tables.clear_tables.Given as goal

abbrev pub invariant-loop-index : goal.invariant-loop-index
invariant-loop-index l = record {
  cleared : (i b : ℕ) → clears l.maker i b ≡ (clears l.fn.maker i b || (nat_lt i (126 + l.index) && table_clears l.forward l.backward i b));
  no_later : below (126 + l.index) l.maker ≡ true;
}
