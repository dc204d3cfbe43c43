use Rattle.std.proofs.Common.{◌≡◌, ◌∙◌, ℕ, ◌+◌, sym, ap, subst, get_or, Some, None, arith, set}
use Rattle.std.proofs.lemmas.List.{get_or_default, get_or_read, set-set}
use Rattle.row_pool.specs.Pools.{IsLive}
use Rattle.row_pool.proofs.CallerLemmas.{live-with}
use Rattle.day_partitions.specs.inner.Trees.{IsMetLeaf}
use Rattle.day_partitions.specs.inner.Nodes.{tree_of}
use Rattle.day_partitions.proofs.PlaceLemmas.{id_inner, id_last, own_last}
use Rattle.day_partitions.proofs.LeafLemmas.{id_there}
use Rattle.day_partitions.proofs.TreeLemmas.{leaf_within, met_is, met_leaf}
use Rattle.day_partitions.proofs.tree.Tree.meet.Goals as goal

pub write-requires-clause-live : goal.write-requires-clause-live
write-requires-clause-live g c =
    let a = c.self.inside in let r = c.self.invariant.rows in
    let first = get_or_read a.nodes.items 0 _ (omega (arith, r.all_nodes)) c.index.ensures 0 ∙ sym (id_inner a.nodes.items a.leaves.items 0 (omega arith)) in
    subst (λ i. IsLive a.pool i) (sym first) (r.live 0 (omega arith))

pub meet_into-requires-clause-live : goal.meet_into-requires-clause-live
meet_into-requires-clause-live g c =
    let a = c.self.inside in let r = c.self.invariant.rows in
    let below = leaf_within a.pool a.nodes.items a.leaves.items c.args.self.now c.args.slot c.self.invariant c.self.view_is c.requires.slot in
    let there : get_or a.leaves.items c.args.slot None ≡ Some c.in-Some.leaf = get_or_default a.leaves.items c.args.slot None c.index_mut.result.now (omega (arith, below, r.all_leaves)) ∙ sym c.index_mut.ensures.value ∙ sym c.in-Some.ensures.value in
    let first = get_or_read a.nodes.items 0 _ (omega (arith, r.all_nodes)) c.index-3.ensures 0 ∙ sym (id_inner a.nodes.items a.leaves.items 0 (omega arith)) in
    let second = get_or_read a.nodes.items 64 _ (omega (arith, r.all_nodes)) c.index-2.ensures 0 ∙ sym (id_last a.nodes.items a.leaves.items 128 (omega arith)) in
    let leaf = id_there a.nodes.items a.leaves.items c.args.slot c.in-Some.leaf below there in
    let after : (i : ℕ) → IsLive a.pool i → IsLive c.write.new.self i = λ i h. subst (λ p. IsLive p i) (sym c.write.ensures) (live-with a.pool _ c.args.words.now i h) in (
      after _ (subst (λ i. IsLive a.pool i) (sym second) (r.live 128 (omega arith))),
      after _ (subst (λ i. IsLive a.pool i) leaf (r.live (64 + c.args.slot) (omega (arith, below)))),
      after _ (subst (λ i. IsLive a.pool i) (sym first) (r.live 0 (omega arith))),
    )

pub meet_into-requires-clause-apart : goal.meet_into-requires-clause-apart
meet_into-requires-clause-apart g c =
    let a = c.self.inside in let r = c.self.invariant.rows in
    let below = leaf_within a.pool a.nodes.items a.leaves.items c.args.self.now c.args.slot c.self.invariant c.self.view_is c.requires.slot in
    let there : get_or a.leaves.items c.args.slot None ≡ Some c.in-Some.leaf = get_or_default a.leaves.items c.args.slot None c.index_mut.result.now (omega (arith, below, r.all_leaves)) ∙ sym c.index_mut.ensures.value ∙ sym c.in-Some.ensures.value in
    let first = get_or_read a.nodes.items 0 _ (omega (arith, r.all_nodes)) c.index-3.ensures 0 ∙ sym (id_inner a.nodes.items a.leaves.items 0 (omega arith)) in
    let second = get_or_read a.nodes.items 64 _ (omega (arith, r.all_nodes)) c.index-2.ensures 0 ∙ sym (id_last a.nodes.items a.leaves.items 128 (omega arith)) in
    let leaf = id_there a.nodes.items a.leaves.items c.args.slot c.in-Some.leaf below there in
    let mine = own_last a.leaves.items 128 (omega arith) in (
      λ e. r.apart 128 (64 + c.args.slot) (omega arith) (omega (arith, below)) mine (λ s. omega (arith, below)) (sym second ∙ e ∙ sym leaf),
      λ e. r.apart 128 0 (omega arith) (omega arith) mine (λ s. omega arith) (sym second ∙ e ∙ first),
    )

pub climb-requires-clause-tree : goal.climb-requires-clause-tree
climb-requires-clause-tree g c =
    let a = c.self.inside in let r = c.self.invariant.rows in
    let below = leaf_within a.pool a.nodes.items a.leaves.items c.args.self.now c.args.slot c.self.invariant c.self.view_is c.requires.slot in
    let there : get_or a.leaves.items c.args.slot None ≡ Some c.in-Some.leaf = get_or_default a.leaves.items c.args.slot None c.index_mut.result.now (omega (arith, below, r.all_leaves)) ∙ sym c.index_mut.ensures.value ∙ sym c.in-Some.ensures.value in
    let first = get_or_read a.nodes.items 0 _ (omega (arith, r.all_nodes)) c.index.ensures 0 in
    let again = get_or_read a.nodes.items 0 _ (omega (arith, r.all_nodes)) c.index-3.ensures 0 in
    let second = get_or_read a.nodes.items 64 _ (omega (arith, r.all_nodes)) c.index-2.ensures 0 in
    let moved = c.replace-met.ensures.value ∙ get_or_read a.nodes.items 64 _ (omega (arith, r.all_nodes)) c.index_mut-2.ensures.value 0 in
    let ids = c.deref.ensures.value ∙ ap (set a.nodes.items 64) c.replace-met.ensures.after in
    let leaves = c.deref-2.ensures.value ∙ set-set a.leaves.items c.args.slot _ _ ∙ ap (λ i. set a.leaves.items c.args.slot (Some i)) moved in
    let h = met_is a.pool a.nodes.items a.leaves.items c.args.slot c.in-Some.leaf c.args.words.now c.self.invariant below there (c.requires.width ∙ sym (ap (λ t. t.width) c.self.view_is)) c.write.new.self c.meet_into.new.self _ _ _ c.deref.result.now c.deref-2.result.now first c.write.ensures second again c.meet_into.ensures.others c.meet_into.ensures.met ids leaves in
    record { rows = h.1.rows; met = h.1.met }

pub returns-clause-met : goal.returns-clause-met
returns-clause-met g c =
    let a = c.self.inside in let r = c.self.invariant.rows in
    let below = leaf_within a.pool a.nodes.items a.leaves.items c.args.self.now c.args.slot c.self.invariant c.self.view_is c.requires.slot in
    let there : get_or a.leaves.items c.args.slot None ≡ Some c.in-Some.leaf = get_or_default a.leaves.items c.args.slot None c.index_mut.result.now (omega (arith, below, r.all_leaves)) ∙ sym c.index_mut.ensures.value ∙ sym c.in-Some.ensures.value in
    let first = get_or_read a.nodes.items 0 _ (omega (arith, r.all_nodes)) c.index.ensures 0 in
    let again = get_or_read a.nodes.items 0 _ (omega (arith, r.all_nodes)) c.index-3.ensures 0 in
    let second = get_or_read a.nodes.items 64 _ (omega (arith, r.all_nodes)) c.index-2.ensures 0 in
    let moved = c.replace-met.ensures.value ∙ get_or_read a.nodes.items 64 _ (omega (arith, r.all_nodes)) c.index_mut-2.ensures.value 0 in
    let ids = c.deref.ensures.value ∙ ap (set a.nodes.items 64) c.replace-met.ensures.after in
    let leaves = c.deref-2.ensures.value ∙ set-set a.leaves.items c.args.slot _ _ ∙ ap (λ i. set a.leaves.items c.args.slot (Some i)) moved in
    let h = met_is a.pool a.nodes.items a.leaves.items c.args.slot c.in-Some.leaf c.args.words.now c.self.invariant below there (c.requires.width ∙ sym (ap (λ t. t.width) c.self.view_is)) c.write.new.self c.meet_into.new.self _ _ _ c.deref.result.now c.deref-2.result.now first c.write.ensures second again c.meet_into.ensures.others c.meet_into.ensures.met ids leaves in
    let left : c.meet_into.new.self.spare ≡ a.pool.spare = ap (λ q. q.spare) c.meet_into.ensures.others ∙ ap (λ q. q.spare) c.write.ensures in
    subst (λ l. IsMetLeaf c.args.self.now c.args.slot c.args.words.now (tree_of c.climb.new.pool l)) c.deref-2.ensures.value
    (met_leaf a.pool a.nodes.items a.leaves.items c.args.slot c.in-Some.leaf c.args.words.now c.self.invariant below there (c.requires.width ∙ sym (ap (λ t. t.width) c.self.view_is)) c.meet_into.new.self c.climb.new.pool _ c.deref.result.now c.deref-2.result.now c.args.self.now h.1 c.climb.ensures.others c.self.view_is left h.0)
