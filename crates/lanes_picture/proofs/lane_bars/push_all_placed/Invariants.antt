use Rattle.std.proofs.Common.{◌≡◌, ◌++◌, take}
use Rattle.std.specs.List.{flat_map}
use Rattle.lanes_picture.specs.Lanes.{placed_text}
use Rattle.lanes_picture.proofs.lane_bars.push_all_placed.Given as goal

-- what there is so far was appended
abbrev pub invariant-bars : goal.invariant-bars
invariant-bars l = l.bytes.items ≡ l.fn.bytes.items ++ flat_map (placed_text l.number l.full l.lanes) (take l.placed-index l.bars)
