use Rattle.std.proofs.Common.{take}
use Rattle.std.specs.List.{AllZip}
use Rattle.trace_quality.specs.Facts.{IsFacts}
use Rattle.trace_quality.proofs.finding.list_found.Given as goal

-- those of the traces so far
abbrev pub invariant-places : goal.invariant-places
invariant-places l = AllZip IsFacts (take l.index l.gathered.traces) l.facts.items
