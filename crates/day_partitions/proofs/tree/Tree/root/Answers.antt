use Rattle.std.proofs.Common.{◌≡◌, ◌∙◌, ap, sym, arith, subst}
use Rattle.std.proofs.lemmas.List.{get_or_read}
use Rattle.row_pool.specs.Pools.{IsLive, row_at}
use Rattle.day_partitions.specs.inner.Trees.{AreCommon}
use Rattle.day_partitions.specs.inner.Nodes.{id_at}
use Rattle.day_partitions.proofs.PlaceLemmas.{id_inner}
use Rattle.day_partitions.proofs.RootLemmas.{root_common}
use Rattle.day_partitions.proofs.tree.Tree.root.Goals as goal

pub row-requires : goal.row-requires
row-requires c =
    let a = c.self.inside in let r = c.self.invariant.rows in
    let at : c.index.result.now ≡ id_at a.nodes.items a.leaves.items 1 = get_or_read a.nodes.items 1 _ (omega (arith, r.all_nodes)) c.index.ensures 0 ∙ sym (id_inner a.nodes.items a.leaves.items 1 (omega arith)) in
    subst (λ i. IsLive a.pool i) (sym at) (r.live 1 (omega arith))

pub returns-clause-common : goal.returns-clause-common
returns-clause-common c =
    let a = c.self.inside in let r = c.self.invariant.rows in
    let at : c.index.result.now ≡ id_at a.nodes.items a.leaves.items 1 = get_or_read a.nodes.items 1 _ (omega (arith, r.all_nodes)) c.index.ensures 0 ∙ sym (id_inner a.nodes.items a.leaves.items 1 (omega arith)) in
    let words = c.row.ensures.words ∙ ap (row_at a.pool) at in
    subst (λ w. AreCommon c.args.self.now.leaves w) (sym words) (subst (λ t. AreCommon t.leaves (row_at a.pool (id_at a.nodes.items a.leaves.items 1))) c.self.view_is (root_common a.pool a.nodes.items a.leaves.items c.self.invariant))
