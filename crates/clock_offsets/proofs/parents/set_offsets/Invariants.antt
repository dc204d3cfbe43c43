use Rattle.std.proofs.Common.{take}
use Rattle.clock_offsets.proofs.ParentLemmas.{AreSetTo}
use Rattle.clock_offsets.proofs.parents.set_offsets.Given as goal

abbrev pub invariant-loop-machine : goal.invariant-loop-machine
invariant-loop-machine l = AreSetTo l.trace.trace.events l.depth l.depths (take l.machine-index l.frontier) l.offsets
