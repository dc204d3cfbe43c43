use Rattle.std.proofs.Common.{◌≡◌, ◌∙◌, ◌+◌, ◌-◌, ◌/◌, sym, ap, subst}
use Rattle.row_pool.specs.Pools.{IsLive}
use Rattle.row_pool.proofs.CallerLemmas.{live-insert_same}
use Rattle.day_partitions.specs.inner.Nodes.{ChangesInner, IsTreeBut, tree_of}
use Rattle.day_partitions.proofs.TreeLemmas.{leaf_none, put_is, view_is}
use Rattle.day_partitions.proofs.tree.Tree.put.Goals as goal

pub write-requires-clause-live : goal.write-requires-clause-live
write-requires-clause-live g c = subst (λ p. IsLive p c.in-Some.id) (sym c.in-Some.ensures.taken) (live-insert_same _ _ _)

pub climb-requires-clause-tree : goal.climb-requires-clause-tree
climb-requires-clause-tree g c =
    let a = c.self.inside in
    let none = leaf_none a.pool a.leaves.items c.args.self.now c.args.slot c.self.view_is c.requires.missing in
    let h = put_is a.pool c.write.new.self a.nodes.items a.leaves.items c.deref-2.result.now c.args.slot c.self.invariant c.requires.slot c.take.new.self c.in-Some.id c.args.words.now none c.in-Some.ensures.new (c.requires.width ∙ sym (ap (λ t. t.width) c.self.view_is)) c.in-Some.ensures.taken c.write.ensures c.deref-2.ensures.value in
    subst (λ l. IsTreeBut c.write.new.self l c.deref-2.result.now ((64 + c.args.slot) / 2)) (sym c.deref.ensures.value) (record { rows = h.rows; met = h.met })

pub returns-clause-put : goal.returns-clause-put
returns-clause-put g c =
    let a = c.self.inside in
    let none = leaf_none a.pool a.leaves.items c.args.self.now c.args.slot c.self.view_is c.requires.missing in
    let h = put_is a.pool c.write.new.self a.nodes.items a.leaves.items c.deref-2.result.now c.args.slot c.self.invariant c.requires.slot c.take.new.self c.in-Some.id c.args.words.now none c.in-Some.ensures.new (c.requires.width ∙ sym (ap (λ t. t.width) c.self.view_is)) c.in-Some.ensures.taken c.write.ensures c.deref-2.ensures.value in
    let inner = subst (λ l. ChangesInner c.write.new.self l c.deref-2.result.now c.climb.new.pool) c.deref.ensures.value c.climb.ensures.others in
    let left : c.write.new.self.spare ≡ c.args.self.now.spare - 1 = ap (λ q. q.spare) c.write.ensures ∙ ap (λ q. q.spare) c.in-Some.ensures.taken ∙ ap (λ t. t.spare - 1) c.self.view_is in
    ap (tree_of c.climb.new.pool) (sym c.deref-2.ensures.value)
    ∙ view_is a.pool c.write.new.self c.climb.new.pool a.leaves.items c.deref-2.result.now a.nodes.items c.args.slot _ _ c.args.self.now h inner c.self.view_is left
