use Rattle.std.proofs.Common.{◌≡◌, ◌++◌, length, map, take}
use Rattle.machine_quality.specs.Told.{AreBelow, clocks_under, named_clock}
use Rattle.machine_quality.proofs.finding.push_clocks.Given as goal

-- the clocks so far were appended
abbrev pub invariant-loop-clock : goal.invariant-loop-clock
invariant-loop-clock l = record {
  joined : clocks_under l.raw.texts.machines l.told.items ≡ clocks_under l.raw.texts.machines l.fn.told.items ++ map (named_clock l.raw.trace.events) (take l.clock-index l.clocks);
  below : AreBelow (length l.raw.texts.machines) l.told.items;
}
