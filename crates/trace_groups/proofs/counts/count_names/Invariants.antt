use Rattle.std.proofs.Common.{take}
use Rattle.trace_groups.specs.inner.Counts.{AreCounted}
use Rattle.trace_groups.proofs.counts.count_names.Given as goal

-- the names of the traces so far are counted
abbrev pub invariant-traces : goal.invariant-traces
invariant-traces l = AreCounted l.gathered.texts (take l.index l.gathered.traces) l.counts
