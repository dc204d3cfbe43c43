use Rattle.std.proofs.Common.{sym, ap, ◌∙◌}
use Rattle.page_rows.specs.Pages.{no_lists, with_row}
use Rattle.page_rows.proofs.ReadingLemmas.{rows_more}
use Rattle.page_rows.proofs.reading.list_rows.Goals as goal

pub rows-preserved : goal.rows-preserved
rows-preserved c =
    c.in_ok-add.ensures ∙ ap (λ p. with_row p c.in-Some.row) c.rows.invariant ∙ sym (rows_more no_lists c.rows.yielded c.in-Some.row)
