use Rattle.std.proofs.Common.{◌≡◌, true, take}
use Rattle.hypothesis_index.specs.Places.{pairs_below}
use Rattle.refute_tests.specs.Clearing.{AddsExactly}
use Rattle.word_rows.specs.Rows.{below}
use Rattle.judged_books.specs.inner.MarkedRows.{RowsTell, TellsOfNames, name_width}
use Rattle.judged_books.proofs.given_rows.clear_name_rows.Given as goal

-- the rows so far are cleared, and no later word was begun
abbrev pub invariant-rows : goal.invariant-rows
invariant-rows l = record {
  cleared : AddsExactly l.fn.maker (RowsTell TellsOfNames (take l.high l.rows)) l.maker;
  no_later : below (name_width (pairs_below l.high)) l.maker ≡ true;
}
