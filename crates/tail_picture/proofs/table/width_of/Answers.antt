use Rattle.tail_picture.proofs.WidthLemmas.{width_done, width_next}
use Rattle.tail_picture.proofs.table.width_of.Goals as goal

pub rows-preserved : goal.rows-preserved
rows-preserved c = width_next c.args.rows.now c.rows.row-index c.row-item.result c.rows.width c.greater_of.result c.max-width.result c.rows-test.true c.row-item.is c.greater_of.ensures c.max-width.ensures c.rows.invariant

pub returns : goal.returns
returns c = width_done c.args.rows.now c.rows.row-index c.rows.width c.rows-test.false c.rows.invariant
