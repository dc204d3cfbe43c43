use Rattle.std.proofs.Common.{◌++◌}
use Rattle.std.specs.List.{flat_map}
use Rattle.std.proofs.lemmas.Result.{err_from_is_err_and}
use Rattle.evidence_rules.specs.RowTexts.{order_row, exclusion_row, pipe_row}
use Rattle.evidence_text.specs.Naming.{fields_of, rows_of}
use Rattle.evidence_text.proofs.text_printing.print_told.Goals as goal

pub returns-in_err-print_name_rows-2 : goal.returns-in_err-print_name_rows-2
returns-in_err-print_name_rows-2 g c =
    let rows = rows_of c.args.rows.now in
    let fields = fields_of c.args.naming.now in
    let one = flat_map (order_row fields) rows.orders in
    let two = flat_map (exclusion_row fields) rows.exclusions in
    let three = flat_map (pipe_row fields) rows.pipes in
    let p = err_from_is_err_and c.from_residual-in_err-print_name_rows-2.result c.from_residual-in_err-print_name_rows-2.ensures.1 in
    let first = rw c.deref.ensures.value at c.in_ok-print_name_rows.ensures in
    let cut = rw c.deref-2.ensures.value at c.in_err-print_name_rows-2.ensures in
    rw (p.1, p.2) (c.calls_follow.ensures.follow _ _ _ _ _ _ _ _ one (two ++ three) first
    (c.calls_follow.ensures.goes_on _ _ _ _ c.print_name_rows-2.new.buffer _ two three cut))

pub returns : goal.returns
returns g c =
    let rows = rows_of c.args.rows.now in
    let fields = fields_of c.args.naming.now in
    let one = flat_map (order_row fields) rows.orders in
    let two = flat_map (exclusion_row fields) rows.exclusions in
    let three = flat_map (pipe_row fields) rows.pipes in
    let first = rw c.deref.ensures.value at c.in_ok-print_name_rows.ensures in
    let second = rw c.deref-2.ensures.value at c.in_ok-print_name_rows-2.ensures in
    let third = rw c.deref-3.ensures.value at c.print_task_rows.ensures in
    c.calls_follow.ensures.follow _ _ _ _ _ _ _ _ one (two ++ three) first
    (c.calls_follow.ensures.follow _ _ _ _ _ _ _ _ two three second third)
