use Rattle.std.proofs.Common.{◌≡◌, ◌∙◌, List, ℕ, ap, length, subst}
use Rattle.refute_tests.specs.Clearing.{AddsExactly}
use Rattle.trace_types.specs.Segments.{SegmentName}
use Rattle.judged_books.specs.inner.MarkedRows.{RowTells, TellsOfNames}
use Rattle.judged_books.proofs.RowLemmas.{row_at, rows_more}
use Rattle.judged_books.proofs.given_rows.clear_name_rows.Goals as goal

pub clear_name_row-requires-clause-long : goal.clear_name_row-requires-clause-long
clear_name_row-requires-clause-long c =
    let marks : c.deref.result.now ≡ c.index-rows-high.result.1 = c.deref.ensures.value ∙ ap (λ (r : SegmentName × List ℕ). r.1) c.row.view_is in
    ap (λ (l : List ℕ). length l) marks ∙ c.requires.triangle.each c.rows.high c.index-rows-high.result (row_at c.args.rows.now c.rows.high c.index-rows-high.result c.rows-test.true c.index-rows-high.is)

pub rows-preserved : goal.rows-preserved
rows-preserved c =
    let marks : c.deref.result.now ≡ c.index-rows-high.result.1 = c.deref.ensures.value ∙ ap (λ (r : SegmentName × List ℕ). r.1) c.row.view_is in
    let at = row_at c.args.rows.now c.rows.high c.index-rows-high.result c.rows-test.true c.index-rows-high.is in
    record {
      cleared = rows_more TellsOfNames c.args.rows.now c.args.maker.now c.rows.maker c.clear_name_row.new.maker c.rows.high c.index-rows-high.result at c.rows.invariant.cleared
          (subst (λ (l : List ℕ). AddsExactly c.rows.maker (RowTells TellsOfNames c.rows.high l) c.clear_name_row.new.maker) marks c.in_ok-clear_name_row.ensures.cleared);
      no_later = c.in_ok-clear_name_row.ensures.no_later;
    }
