use Rattle.std.proofs.Common.{take}
use Rattle.hypothesis_index.specs.Refuting.{Refutes}
use Rattle.trace_types.specs.Surviving.{Survives}
use Rattle.counterexamples.proofs.searching.find_among.Given as goal

abbrev pub invariant-traces : goal.invariant-traces
invariant-traces l = Survives (Refutes l.relation) (take l.index l.traces)
