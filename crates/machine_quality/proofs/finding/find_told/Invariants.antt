use Rattle.std.proofs.Common.{length, take}
use Rattle.machine_quality.specs.Told.{AreBelow, AreTold, clocks_under}
use Rattle.machine_quality.proofs.finding.find_told.Given as goal

-- what the traces so far tell
abbrev pub invariant-traces : goal.invariant-traces
invariant-traces l = record {
  told : AreTold (take l.index l.gathered.traces) (clocks_under l.gathered.texts.machines l.told.items);
  below : AreBelow (length l.gathered.texts.machines) l.told.items;
}
