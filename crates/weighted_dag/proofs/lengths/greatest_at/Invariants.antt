use Rattle.std.proofs.Common.{take, map}
use Rattle.weighted_dag.proofs.LengthLemmas.{IsGreatestAt}
use Rattle.weighted_dag.proofs.lengths.greatest_at.Given as goal

abbrev pub invariant-indices : goal.invariant-indices
invariant-indices g l =
    IsGreatestAt (map g.L.Length.value l.numbers) (take l.index-index l.indices) l.indices (g.L.Length.value l.greatest)
