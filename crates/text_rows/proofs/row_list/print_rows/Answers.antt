use Rattle.std.proofs.Common.{refl, ◌∙◌}
use Rattle.std.proofs.lemmas.Result.{err_from_is_err_and}
use Rattle.text_rows.proofs.PrintLemmas.{prints_nothing, prints_next, prints_all, prints_part, prefix_next}
use Rattle.text_rows.proofs.row_list.print_rows.Goals as goal

pub loop-item-init : goal.loop-item-init
loop-item-init g c = record {
  prints = prints_nothing _ _;
  counted = refl;
}

pub loop-item-preserved : goal.loop-item-preserved
loop-item-preserved g c = record {
  prints = prints_next (g.K.Rows.text c.args.rows.now) c.args.items.now c.loop-item.item-index c.item-item.result _ _ _ _ _ _ c.loop-item-test.true c.item-item.is c.loop-item.invariant.prints c.in_ok-print.ensures.all;
  counted = c.in_ok-print.ensures.counted ∙ c.loop-item.invariant.counted;
}

pub returns : goal.returns
returns g c = record {
  all = prints_all (g.K.Rows.text c.args.rows.now) c.args.items.now c.loop-item.item-index _ _ _ _ c.loop-item-test.false c.loop-item.invariant.prints;
  prefix = tt;
  counted = c.loop-item.invariant.counted;
}

pub returns-in_err-print : goal.returns-in_err-print
returns-in_err-print g c =
    let p = err_from_is_err_and c.from_residual.result c.from_residual.ensures.1 in
    rw (p.1, p.2) (prints_part g.S.Sink.written g.S.Sink.faults _ c.args.sink.now c.loop-item.sink _ _ _ _ c.loop-item.invariant.counted c.in_err-print.ensures.counted
    (prefix_next (g.K.Rows.text c.args.rows.now) c.args.items.now c.loop-item.item-index c.item-item.result _ _ _ _ _ c.loop-item-test.true c.item-item.is c.loop-item.invariant.prints c.in_err-print.ensures.prefix))
