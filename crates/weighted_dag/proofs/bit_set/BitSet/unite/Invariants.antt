use Rattle.weighted_dag.proofs.BitLemmas.{IsUnitedBelow}
use Rattle.weighted_dag.proofs.bit_set.BitSet.unite.Given as goal

abbrev pub invariant-words : goal.invariant-words
invariant-words l = IsUnitedBelow l.index l.initial.self-inside.words.items l.words l.self-inside.words.items
