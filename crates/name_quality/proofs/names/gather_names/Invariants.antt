use Rattle.std.proofs.Common.{take}
use Rattle.name_quality.specs.Names.{AreNames}
use Rattle.name_quality.proofs.names.gather_names.Given as goal

-- those of the traces so far
abbrev pub invariant-traces : goal.invariant-traces
invariant-traces l = AreNames l.gathered.texts (take l.index l.gathered.traces) l.names.items
