use Rattle.std.proofs.Common.{◌≡◌, take}
use Rattle.machine_quality.specs.MachineTallies.{range_of}
use Rattle.machine_quality.specs.inner.Numbered.{offsets_numbered}
use Rattle.machine_quality.proofs.tallying.find_range.Given as goal

-- the range of the offsets so far
abbrev pub invariant-loop-clock : goal.invariant-loop-clock
invariant-loop-clock l = l.range ≡ range_of (offsets_numbered (take l.clock-index l.told) l.machine)
