use Rattle.graph_layers.proofs.ArrowLemmas.{KeptSoFar}
use Rattle.graph_layers.proofs.arrows.unmarked.Given as goal

-- the pairs so far that are not marked
abbrev pub invariant-pairs : goal.invariant-pairs
invariant-pairs l = KeptSoFar l.pairs l.index l.left.items
