use Rattle.lanes_picture.proofs.LaneLemmas.{bars_done, bars_next}
use Rattle.lanes_picture.proofs.lane_list.lanes_of.Goals as goal

pub bars-preserved : goal.bars-preserved
bars-preserved c = bars_next c.args.number c.bars.seen.items _ _ c.args.bars.now c.bars.placed-index c.placed-item.result c.bars-test.true c.placed-item.is c.in_ok-add_bar.ensures c.bars.invariant

pub returns : goal.returns
returns c = bars_done c.args.number c.bars.seen.items _ c.args.bars.now c.bars.placed-index c.bars-test.false c.bars.invariant
