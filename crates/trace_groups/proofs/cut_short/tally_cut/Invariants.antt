use Rattle.trace_quality.proofs.CountLemmas.{IsTallyBelow}
use Rattle.trace_groups.specs.Groups.{counts_cut, counts_grouped}
use Rattle.trace_groups.proofs.cut_short.tally_cut.Given as goal

-- what the traces so far count
abbrev pub invariant-traces : goal.invariant-traces
invariant-traces l = IsTallyBelow (counts_cut l.gathered.traces) (counts_grouped l.gathered.traces) l.gathered.traces l.index l.sum
