use Rattle.std.proofs.Common.{◌≡◌, refl, ◌∙◌, ap, subst, get_or}
use Rattle.std.specs.Prelude.{Err}
use Rattle.std.proofs.lemmas.Result.{err_from_is_err_and}
use Rattle.text_rows.specs.Printing.{print_faults}
use Rattle.view_rows.proofs.ReportPrintLemmas.{each_all, each_cut, each_next, each_none}
use Rattle.view_rows.proofs.named_rows.print_each.Goals as goal

pub loop-item-init : goal.loop-item-init
loop-item-init g c = record {
  printed = each_none g.S.Sink.written g.S.Sink.faults (g.K.NamedRows.text c.args.rows.now) c.args.items.now _ _ c.parts_follow.ensures.none;
  counted = refl;
}

pub loop-item-preserved : goal.loop-item-preserved
loop-item-preserved g c = record {
  printed = each_next g.S.Sink.written g.S.Sink.faults (g.K.NamedRows.text c.args.rows.now) c.args.items.now c.loop-item.item-index c.item-item.result _ _ _ _ _ _ c.part_calls_follow.ensures.follow c.part_calls_follow.ensures.one c.loop-item-test.true c.item-item.is c.loop-item.invariant.printed c.in_ok-print.ensures;
  counted = c.in_ok-print.ensures.counted ∙ c.loop-item.invariant.counted;
}

pub returns-clause-printed : goal.returns-clause-printed
returns-clause-printed g c = each_all g.S.Sink.written g.S.Sink.faults (g.K.NamedRows.text c.args.rows.now) c.args.items.now c.loop-item.item-index _ _ _ _ c.loop-item-test.false c.loop-item.invariant.printed

pub returns-clause-counted : goal.returns-clause-counted
returns-clause-counted g c = c.loop-item.invariant.counted

pub returns-in_err-print-clause-printed : goal.returns-in_err-print-clause-printed
returns-in_err-print-clause-printed g c =
    let p = err_from_is_err_and c.from_residual.result c.from_residual.ensures.1 in
    rw (p.1, p.2) (each_cut g.S.Sink.written g.S.Sink.faults (g.K.NamedRows.text c.args.rows.now) c.args.items.now c.loop-item.item-index c.item-item.result _ _ _ _ _ _ c.part_calls_follow.ensures.follow c.part_calls_follow.ensures.one c.loop-item-test.true c.item-item.is c.loop-item.invariant.printed _ c.part_calls_follow.ensures.goes_on c.in_err-print.ensures)

pub returns-in_err-print-clause-counted : goal.returns-in_err-print-clause-counted
returns-in_err-print-clause-counted g c =
    let p = err_from_is_err_and c.from_residual.result c.from_residual.ensures.1 in
    rw (p.1, p.2) (c.in_err-print.ensures.counted ∙ ap (print_faults {T = Unit {0}} (Err c.in_err-print.field-0.0)) c.loop-item.invariant.counted)
