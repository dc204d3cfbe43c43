use Rattle.head_picture.proofs.RefusedLemmas.{rows_done, rows_next}
use Rattle.head_picture.proofs.refused.reasons_of.Goals as goal

pub rows-preserved : goal.rows-preserved
rows-preserved c = rows_next c.rows.seen.items _ _ c.args.rows.now c.rows.row-index c.row-item.result c.rows-test.true c.row-item.is c.in_ok-add_reason.ensures c.rows.invariant

pub returns : goal.returns
returns c = rows_done c.rows.seen.items _ c.args.rows.now c.rows.row-index c.rows-test.false c.rows.invariant
