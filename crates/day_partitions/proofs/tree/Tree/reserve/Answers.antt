use Rattle.std.proofs.Common.{◌∙◌, ap, sym, subst, max, inl, inr}
use Rattle.row_pool.specs.Pools.{with_spare}
use Rattle.trace_types.proofs.TruthLemmas.{on_ok}
use Rattle.day_partitions.specs.inner.Trees.{tree}
use Rattle.day_partitions.specs.inner.Nodes.{IsTree, tree_of}
use Rattle.day_partitions.proofs.WiderLemmas.{either, tree_spare, leaves_spare}
use Rattle.day_partitions.proofs.tree.Tree.reserve.Goals as goal

pub invariant_of-self : goal.invariant_of-self
invariant_of-self c =
    let a = c.self.inside in
    elim (either c.reserve.result c.reserve.new.self (with_spare a.pool c.args.rows) a.pool c.reserve.ensures.ok c.reserve.ensures.err) [
      | inl e ↦ subst (λ q. IsTree q a.nodes.items a.leaves.items) (sym e) (tree_spare a.pool a.nodes.items a.leaves.items (max a.pool.spare c.args.rows) c.self.invariant)
      | inr e ↦ subst (λ q. IsTree q a.nodes.items a.leaves.items) (sym e) c.self.invariant
    ]

pub returns-clause-ok : goal.returns-clause-ok
returns-clause-ok c =
    let a = c.self.inside in
    on_ok c.reserve.result _ _ (λ e. ap (λ q. tree_of q a.leaves.items) e ∙ ap (λ l. tree a.pool.width l (max a.pool.spare c.args.rows)) (leaves_spare a.pool a.leaves.items (max a.pool.spare c.args.rows))
    ∙ ap (λ t. tree t.width t.leaves (max t.spare c.args.rows)) c.self.view_is) c.reserve.ensures.ok
