use Rattle.std.proofs.Common.{◌≡◌, ◌++◌, take}
use Rattle.std.specs.List.{flat_map}
use Rattle.lanes_picture.specs.Lanes.{lane_name}
use Rattle.lanes_picture.proofs.load_texts.push_lane_names.Given as goal

-- what there is so far was appended
abbrev pub invariant-lanes : goal.invariant-lanes
invariant-lanes l = l.bytes.items ≡ l.fn.bytes.items ++ flat_map lane_name (take l.task-index l.lanes)
