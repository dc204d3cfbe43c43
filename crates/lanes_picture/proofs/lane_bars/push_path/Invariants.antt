use Rattle.std.proofs.Common.{◌≡◌, ◌++◌, take}
use Rattle.std.specs.List.{flat_map}
use Rattle.lanes_picture.specs.Lanes.{path_text}
use Rattle.lanes_picture.proofs.lane_bars.push_path.Given as goal

-- what there is so far was appended
abbrev pub invariant-bars : goal.invariant-bars
invariant-bars l = l.bytes.items ≡ l.fn.bytes.items ++ flat_map (path_text l.number l.full) (take l.placed-index l.bars)
