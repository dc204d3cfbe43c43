use Rattle.implied_pairs.proofs.ImplyLemmas.{NumbersSoFar, PairsSoFar}
use Rattle.implied_pairs.proofs.reaching.pairs_matrix.Given as goal

abbrev pub invariant-pairs : goal.invariant-pairs
invariant-pairs l = PairsSoFar l.count l.pairs l.pair-index l.matrix.items

abbrev pub invariant-numbers : goal.invariant-numbers
invariant-numbers l = NumbersSoFar l.count l.pairs l.number l.matrix.items
