use Rattle.std.proofs.Common.{ℕ, List, Vec, Global, length, sym, subst}
use Rattle.std.proofs.lemmas.Result.{IfOk-weaker}
use Rattle.implied_pairs.specs.Laws.{AreNotImplied}
use Rattle.implied_pairs.specs.Pairs.{AreBelow}
use Rattle.graph_picture.proofs.LineLemmas.{pipes_below}
use Rattle.graph_picture.proofs.graph.kept_pipes.Goals as goal

pub kept_pairs-requires-clause-below : goal.kept_pairs-requires-clause-below
kept_pairs-requires-clause-below c = subst (λ (n : ℕ). AreBelow n c.args.pairs.now) (sym c.box_count.ensures) (subst (AreBelow (length c.args.page.now.boxes)) (sym c.requires.pairs) (pipes_below (length c.args.page.now.boxes) c.args.page.now.boxes c.args.page.now.pipes))

pub returns : goal.returns
returns c = IfOk-weaker c.kept_pairs.result _ _ (λ (v : Vec (ℕ × ℕ) Global) (h : AreNotImplied c.args.pairs.now v.items). subst (λ (l : List (ℕ × ℕ)). AreNotImplied l v.items) c.requires.pairs h) c.kept_pairs.ensures
