use Rattle.std.proofs.Common.{◌≡◌, ◌+◌, drop}
use Rattle.lanes_picture.specs.Lanes.{lane_of}
use Rattle.lanes_picture.proofs.lane_list.lane_of.Given as goal

-- no lane so far is that of the task
abbrev pub invariant-lanes : goal.invariant-lanes
invariant-lanes l = record {
  count : l.count ≡ l.lane-index;
  told : lane_of l.lanes l.task ≡ l.lane-index + lane_of (drop l.lane-index l.lanes) l.task;
}
