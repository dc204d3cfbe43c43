use Rattle.std.proofs.Common.{◌++◌}
use Rattle.std.proofs.lemmas.Result.{err_from_is_err_and}
use Rattle.evidence_rules.specs.RowTexts.{head_row, nearly_text, told_text}
use Rattle.evidence_text.specs.Naming.{fields_of, rows_of}
use Rattle.evidence_text.proofs.text_printing.print_evidence_rows.Goals as goal

pub returns-in_err-print_head : goal.returns-in_err-print_head
returns-in_err-print_head g c =
    let rows = rows_of c.args.rows.now in
    let fields = fields_of c.args.naming.now in
    let p = err_from_is_err_and c.from_residual.result c.from_residual.ensures.1 in
    rw (p.1, p.2) (c.calls_follow.ensures.goes_on _ _ _ _ c.print_head.new.buffer _ (head_row c.args.traces rows) (told_text fields rows ++ nearly_text fields rows) c.in_err-print_head.ensures)

pub returns-in_err-print_told : goal.returns-in_err-print_told
returns-in_err-print_told g c =
    let rows = rows_of c.args.rows.now in
    let fields = fields_of c.args.naming.now in
    let p = err_from_is_err_and c.from_residual-in_err-print_told.result c.from_residual-in_err-print_told.ensures.1 in
    rw (p.1, p.2) (c.calls_follow.ensures.follow _ _ _ _ _ _ _ _ (head_row c.args.traces rows) (told_text fields rows ++ nearly_text fields rows) c.in_ok-print_head.ensures
    (c.calls_follow.ensures.goes_on _ _ _ _ c.print_told.new.buffer _ (told_text fields rows) (nearly_text fields rows) c.in_err-print_told.ensures))

pub returns : goal.returns
returns g c =
    let rows = rows_of c.args.rows.now in
    let fields = fields_of c.args.naming.now in
    c.calls_follow.ensures.follow _ _ _ _ _ _ _ _ (head_row c.args.traces rows) (told_text fields rows ++ nearly_text fields rows) c.in_ok-print_head.ensures
    (c.calls_follow.ensures.follow _ _ _ _ _ _ _ _ (told_text fields rows) (nearly_text fields rows) c.in_ok-print_told.ensures c.print_nearly_told.ensures)
