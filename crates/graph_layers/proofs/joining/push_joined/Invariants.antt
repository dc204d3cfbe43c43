use Rattle.graph_layers.specs.inner.Chains.{HasJoined}
use Rattle.graph_layers.proofs.joining.push_joined.Given as goal

-- the pairs so far that are joined
abbrev pub invariant-columns : goal.invariant-columns
invariant-columns l = HasJoined l.count l.pairs l.matrix l.first l.second l.joined.items
