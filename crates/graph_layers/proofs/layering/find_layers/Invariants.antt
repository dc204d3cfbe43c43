use Rattle.graph_layers.specs.inner.Chains.{is_above}
use Rattle.graph_layers.specs.inner.Depths.{AreRounds}
use Rattle.graph_layers.proofs.layering.find_layers.Given as goal

-- the layers after so many rounds
abbrev pub invariant-rounds : goal.invariant-rounds
invariant-rounds l = AreRounds l.count l.round (is_above l.count l.matrix) l.layers.items
