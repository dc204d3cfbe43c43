use Rattle.std.proofs.Common.{ap, ◌∙◌}
use Rattle.ranking_picture.specs.Strips.{end_of}
use Rattle.ranking_picture.proofs.StripLemmas.{strip_done, strip_next}
use Rattle.ranking_picture.proofs.strip.push_parts.Goals as goal

pub rows-preserved : goal.rows-preserved
rows-preserved c = record {
  within = c.end_of-end.ensures.within;
  told = strip_next c.args.all c.args.critical c.rows.at c.args.rows.now c.rows.row-index c.row-item.result _ _ _ c.end_of-end.result c.span_of.result c.rows-test.true c.row-item.is
      (c.end_of-end.ensures.value ∙ ap (end_of c.args.critical c.rows.at) c.get.ensures.value) c.span_of.ensures c.in_ok-push_part.ensures c.rows.invariant.told;
}

pub returns : goal.returns
returns c =
    strip_done c.push_bar-2.result c.args.all c.args.critical c.rows.at c.args.rows.now c.rows.row-index _ _ _ _ c.span_of-2.result c.span_of-3.result c.rows-test.false c.span_of-2.ensures c.span_of-3.ensures c.rows.invariant.told c.in_ok-push_bar.ensures c.push_bar-2.ensures
