use Rattle.std.proofs.Common.{ℕ, List, length, sym, subst}
use Rattle.implied_pairs.specs.Laws.{AreNotImplied}
use Rattle.graph_layers.specs.Joined.{AreJoined}
use Rattle.graph_layers.specs.Layers.{AreLayers}
use Rattle.graph_layers.specs.Layouts.{ChainsAreSame}
use Rattle.graph_layers.specs.Places.{ArePlaces}
use Rattle.graph_layers.proofs.layout.lay_out.Goals as goal

pub returns : goal.returns
returns c =
    let count = c.args.count in
    let pairs = c.args.pairs.now in
    let kept = c.in_ok-arrows.ensures in
    let layers = c.in_ok-layers.ensures.layers in
    let whole = c.framed.ensures in
    let out = c.framed.result in
    record {
      arrows = subst (AreNotImplied pairs) (sym whole.arrows) kept;
      chains = subst (ChainsAreSame pairs) (sym whole.arrows) (λ a b. c.the_same_reach.ensures count pairs _ c.requires.below kept a b);
      joined = subst (AreJoined pairs) (sym whole.joined) c.in_ok-joined.ensures;
      layers = subst (AreLayers count pairs) (sym whole.layers) layers;
      places = subst (λ (n : ℕ). ArePlaces n out.layers.items out.places.items out.width out.height) layers.size (subst (λ (l : List ℕ). ArePlaces (length c.in_ok-layers.layers.items) l out.places.items out.width out.height) (sym whole.layers) whole.places);
    }
