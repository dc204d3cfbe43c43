use Rattle.std.proofs.Common.{◌≡◌, ◌+◌, true, take}
use Rattle.hypothesis_index.specs.Places.{pairs_below}
use Rattle.refute_tests.specs.Clearing.{AddsExactly}
use Rattle.word_rows.specs.Rows.{below}
use Rattle.judged_books.specs.inner.MarkedRows.{RowTells, TellsOfNames, name_width}
use Rattle.judged_books.proofs.given_rows.clear_name_row.Given as goal

-- the marks so far are cleared, and no later word was begun
abbrev pub invariant-marks : goal.invariant-marks
invariant-marks l = record {
  cleared : AddsExactly l.fn.maker (RowTells TellsOfNames l.high (take l.low l.marks)) l.maker;
  no_later : below (name_width (pairs_below l.high + l.low)) l.maker ≡ true;
}
