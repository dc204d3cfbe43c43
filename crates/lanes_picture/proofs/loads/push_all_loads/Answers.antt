use Rattle.lanes_picture.proofs.LaneLemmas.{loads_done, loads_next}
use Rattle.lanes_picture.proofs.loads.push_all_loads.Goals as goal

pub loads-preserved : goal.loads-preserved
loads-preserved c = loads_next c.args.bars.now c.args.loads.now c.loads.index c.index-loads-index.result _ _ _ c.loads-test.true c.index-loads-index.is c.in_ok-push_load.ensures c.loads.invariant

pub returns : goal.returns
returns c = loads_done c.args.bars.now c.args.loads.now c.loads.index _ _ c.loads-test.false c.loads.invariant
