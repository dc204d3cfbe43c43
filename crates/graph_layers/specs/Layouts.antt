-- A model as a graph in layers.
use Rattle.std.specs.Prelude.{◌↔◌, ℕ, List}
use Rattle.evidence_rules.specs.Reaching.{Reaches}
use Rattle.implied_pairs.specs.Laws.{AreNotImplied}
use Rattle.graph_layers.specs.declared.layout.Layout.{Layout}
use Rattle.graph_layers.specs.Joined.{AreJoined}
use Rattle.graph_layers.specs.Layers.{AreLayers}
use Rattle.graph_layers.specs.Places.{ArePlaces}

-- chains of arrows lead where chains of relations do
abbrev pub ChainsAreSame : (pairs arrows : List (ℕ × ℕ)) → Type 0
ChainsAreSame pairs arrows = (a b : ℕ) → Reaches pairs a b ↔ Reaches arrows a b

-- the layout of boxes and of the relations between them. An arrow is a relation that no chain
-- through boxes of another strongly connected component implies, and no other relation is one; the
-- relations of such a component are all arrows
pub record IsLayout (count : ℕ) (pairs : List (ℕ × ℕ)) (layout : Layout) : Type 0 where
  pub arrows : AreNotImplied pairs layout.arrows.items
  pub chains : ChainsAreSame pairs layout.arrows.items
  pub joined : AreJoined pairs layout.joined.items
  pub layers : AreLayers count pairs layout.layers.items
  pub places : ArePlaces count layout.layers.items layout.places.items layout.width layout.height
