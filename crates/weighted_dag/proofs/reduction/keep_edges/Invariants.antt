use Rattle.std.proofs.Common.{take}
use Rattle.weighted_dag.specs.Graphs.{successors_of}
use Rattle.weighted_dag.proofs.KeepingLemmas.{IsKept}
use Rattle.weighted_dag.proofs.reduction.keep_edges.Given as goal

abbrev pub invariant-successors : goal.invariant-successors
invariant-successors l =
    IsKept l.dag l.fn.reduced l.reduced l.vertex (take l.successor-index (successors_of l.dag l.vertex)) l.set
