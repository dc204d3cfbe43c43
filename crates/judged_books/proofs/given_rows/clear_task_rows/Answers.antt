use Rattle.std.proofs.Common.{◌≡◌, ◌∙◌, ◌≤◌, List, ℕ, ap, arith, length, subst}
use Rattle.hypothesis_index.specs.Places.{pairs_below}
use Rattle.refute_tests.specs.Clearing.{AddsExactly}
use Rattle.judged_books.specs.inner.MarkedRows.{RowTells, TellsOfTasks, task_width}
use Rattle.judged_books.proofs.RowLemmas.{row_at, rows_more, tasks_below}
use Rattle.judged_books.proofs.given_rows.clear_task_rows.Goals as goal

pub clear_task_row-requires-clause-long : goal.clear_task_row-requires-clause-long
clear_task_row-requires-clause-long c =
    let marks : c.deref.result.now ≡ c.index-rows-high.result.1 = c.deref.ensures.value ∙ ap (λ (r : List ℕ × List ℕ). r.1) c.row.view_is in
    ap (λ (l : List ℕ). length l) marks ∙ c.requires.triangle.each c.rows.high c.index-rows-high.result (row_at c.args.rows.now c.rows.high c.index-rows-high.result c.rows-test.true c.index-rows-high.is)

pub rows-preserved : goal.rows-preserved
rows-preserved c =
    let marks : c.deref.result.now ≡ c.index-rows-high.result.1 = c.deref.ensures.value ∙ ap (λ (r : List ℕ × List ℕ). r.1) c.row.view_is in
    let at = row_at c.args.rows.now c.rows.high c.index-rows-high.result c.rows-test.true c.index-rows-high.is in
    record {
      cleared = rows_more TellsOfTasks c.args.rows.now c.args.maker.now c.rows.maker c.clear_task_row.new.maker c.rows.high c.index-rows-high.result at c.rows.invariant.cleared
          (subst (λ (l : List ℕ). AddsExactly c.rows.maker (RowTells TellsOfTasks c.rows.high l) c.clear_task_row.new.maker) marks c.in_ok-clear_task_row.ensures.cleared);
      no_later = c.in_ok-clear_task_row.ensures.no_later;
    }

pub returns-clause-no_later : goal.returns-clause-no_later
returns-clause-no_later c =
    let few : c.rows.high ≤ 64 = omega (arith, c.rows.auto.high-end, c.requires.triangle.few) in
    c.below_wider.ensures (task_width (pairs_below c.rows.high)) 126 c.rows.maker (tasks_below c.pairs_follow.ensures c.rows.high few) c.rows.invariant.no_later
