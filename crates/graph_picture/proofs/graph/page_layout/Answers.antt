use Rattle.std.proofs.Common.{ℕ, List, length, sym, subst}
use Rattle.std.proofs.lemmas.Result.{IfOk-weaker}
use Rattle.implied_pairs.specs.Pairs.{AreBelow}
use Rattle.graph_layers.specs.declared.layout.Layout.{Layout}
use Rattle.graph_layers.specs.Layouts.{IsLayout}
use Rattle.graph_picture.specs.Relations.{relations_of}
use Rattle.graph_picture.proofs.LineLemmas.{relations_below}
use Rattle.graph_picture.proofs.graph.page_layout.Goals as goal

pub lay_out-requires-clause-below : goal.lay_out-requires-clause-below
lay_out-requires-clause-below c = subst (λ (n : ℕ). AreBelow n c.args.pairs.now) (sym c.box_count.ensures) (subst (AreBelow (length c.args.page.now.boxes)) (sym c.requires.pairs) (relations_below (length c.args.page.now.boxes) c.args.page.now.betweens))

pub returns : goal.returns
returns c = IfOk-weaker c.lay_out.result _ _ (λ (layout : Layout) (h : IsLayout c.box_count.result c.args.pairs.now layout).
    subst (λ (n : ℕ). IsLayout n (relations_of (length c.args.page.now.boxes) c.args.page.now.betweens) layout) c.box_count.ensures (subst (λ (l : List (ℕ × ℕ)). IsLayout c.box_count.result l layout) c.requires.pairs h)) c.lay_out.ensures
