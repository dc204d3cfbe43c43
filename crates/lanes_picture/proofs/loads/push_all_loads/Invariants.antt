use Rattle.std.proofs.Common.{◌≡◌, ◌++◌, ◌+◌, drop}
use Rattle.lanes_picture.specs.Lanes.{loads_from}
use Rattle.lanes_picture.proofs.loads.push_all_loads.Given as goal

-- the loads so far, and those that are left, are all loads
abbrev pub invariant-loads : goal.invariant-loads
invariant-loads l = l.bytes.items ++ loads_from (l.index + 1) l.bars (drop l.index l.loads) ≡ l.fn.bytes.items ++ loads_from 1 l.bars l.loads
