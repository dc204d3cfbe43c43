use Rattle.std.proofs.Common.{◌≡◌, [], drop}
use Rattle.lanes_picture.specs.Lanes.{with_bars}
use Rattle.lanes_picture.proofs.lane_list.lanes_of.Given as goal

-- the tasks so far, and those of the bars that are left, are those of all bars
abbrev pub invariant-bars : goal.invariant-bars
invariant-bars l = with_bars l.number [] l.bars ≡ with_bars l.number l.seen.items (drop l.placed-index l.bars)
