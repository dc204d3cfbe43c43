use Rattle.graph_layers.specs.inner.Chains.{HasJoined}
use Rattle.graph_layers.proofs.joining.joined_pairs.Given as goal

-- the pairs so far that are joined
abbrev pub invariant-rows : goal.invariant-rows
invariant-rows l = HasJoined l.count l.pairs l.matrix l.first 0 l.joined.items
