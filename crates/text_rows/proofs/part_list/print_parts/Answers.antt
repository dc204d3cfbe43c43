use Rattle.std.proofs.Common.{refl, ◌∙◌}
use Rattle.std.proofs.lemmas.Result.{err_from_is_err_and}
use Rattle.text_rows.proofs.PartLemmas.{parts_none, parts_next, parts_all, parts_one, parts_part, prefix_of_part, prefix_at}
use Rattle.text_rows.proofs.part_list.print_parts.Goals as goal

pub loop-item-init : goal.loop-item-init
loop-item-init g c = record {
  printed = parts_none _ _ _;
  counted = refl;
}

pub loop-item-preserved : goal.loop-item-preserved
loop-item-preserved g c = record {
  printed = parts_next _ c.args.items.now c.loop-item.item-index c.item-item.result _ _ _ _ _ _ c.loop-item-test.true c.item-item.is c.loop-item.invariant.printed (parts_one _ c.item-item.result c.in_ok-print.ensures.all.0 _ _ _ _ c.in_ok-print.ensures.all.1 c.in_ok-print.ensures.all.2);
  counted = c.in_ok-print.ensures.counted ∙ c.loop-item.invariant.counted;
}

pub returns : goal.returns
returns g c = record {
  all = parts_all _ c.args.items.now c.loop-item.item-index _ _ _ _ c.loop-item-test.false c.loop-item.invariant.printed;
  prefix = tt;
  counted = c.loop-item.invariant.counted;
}

pub returns-in_err-print : goal.returns-in_err-print
returns-in_err-print g c =
    let p = err_from_is_err_and c.from_residual.result c.from_residual.ensures.1 in
    rw (p.1, p.2) (parts_part (g.K.Parts.is_text c.args.parts.now) g.S.Sink.written g.S.Sink.faults _ c.args.sink.now c.loop-item.sink _ _ _ _ c.loop-item.invariant.counted c.in_err-print.ensures.counted
    (prefix_at _ c.args.items.now c.loop-item.item-index c.item-item.result _ _ _ _ _ c.loop-item-test.true c.item-item.is c.loop-item.invariant.printed (prefix_of_part (g.K.Parts.is_text c.args.parts.now) c.item-item.result _ _ _ c.in_err-print.ensures.prefix)))
