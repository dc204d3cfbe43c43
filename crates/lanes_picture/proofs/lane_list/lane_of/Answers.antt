use Rattle.std.proofs.Common.{arith, sym, ◌∙◌}
use Rattle.lanes_picture.proofs.LaneLemmas.{lane_here, lane_next, lane_none}
use Rattle.lanes_picture.proofs.lane_list.lane_of.Goals as goal

pub lanes-preserved : goal.lanes-preserved
lanes-preserved c = record {
  count = omega arith;
  told = lane_next c.args.lanes.now c.lanes.lane-index c.lane-item.result c.args.task.now c.lanes-test.true c.lane-item.is _ c.lanes.invariant.told (sym c.is_lane_of.ensures ∙ c.if-is_lane_of.false);
}

pub returns-then-is_lane_of : goal.returns-then-is_lane_of
returns-then-is_lane_of c =
    lane_here c.args.lanes.now c.lanes.lane-index c.lane-item.result c.args.task.now c.lanes-test.true c.lane-item.is _ c.lanes.invariant.told (sym c.is_lane_of.ensures ∙ c.if-is_lane_of.true) c.lanes.count c.lanes.invariant.count

pub returns : goal.returns
returns c = lane_none c.args.lanes.now c.lanes.lane-index c.args.task.now _ c.lanes.count c.lanes-test.false c.lanes.invariant.told c.lanes.invariant.count
