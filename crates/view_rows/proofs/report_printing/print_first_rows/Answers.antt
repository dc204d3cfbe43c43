use Rattle.std.proofs.Common.{[], ◌∷◌}
use Rattle.std.proofs.lemmas.Result.{err_from_is_err_and}
use Rattle.session_rules.specs.Parts.{LatenciesOf, ReportHead}
use Rattle.view_rows.specs.inner.NumberedTexts.{latency_row, report_head}
use Rattle.view_rows.proofs.ReportPrintLemmas.{done}
use Rattle.view_rows.proofs.report_printing.print_first_rows.Goals as goal

pub returns-clause-printed : goal.returns-clause-printed
returns-clause-printed g c = λ given kept head latency.
    let r = c.args.report.now in
    c.part_calls_follow.ensures.follow tt c.print_latency.result _ _ _ (ReportHead given kept ∷ []) (LatenciesOf kept ∷ []) _ _ _
    (c.part_calls_follow.ensures.one (ReportHead given kept) (report_head r) done _ _ _ _ head c.in_ok-print_report_head.ensures)
    (c.part_calls_follow.ensures.one (LatenciesOf kept) (latency_row r.latency) c.print_latency.result _ _ _ _ latency c.print_latency.ensures)

pub returns-in_err-print_report_head-clause-printed : goal.returns-in_err-print_report_head-clause-printed
returns-in_err-print_report_head-clause-printed g c = λ given kept head latency.
    let r = c.args.report.now in
    let p = err_from_is_err_and c.from_residual.result c.from_residual.ensures.1 in
    rw (p.1, p.2) (c.part_calls_follow.ensures.goes_on _ _ _ (ReportHead given kept ∷ []) (LatenciesOf kept ∷ []) _ c.print_report_head.new.buffer _
    (c.part_calls_follow.ensures.one (ReportHead given kept) (report_head r) _ _ _ _ _ head c.in_err-print_report_head.ensures))
