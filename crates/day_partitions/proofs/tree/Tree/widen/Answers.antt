use Rattle.std.proofs.Common.{◌≤◌, ap, sym, subst, arith}
use Rattle.trace_types.proofs.TruthLemmas.{on_ok}
use Rattle.day_partitions.specs.inner.Nodes.{IsTree}
use Rattle.day_partitions.proofs.WiderLemmas.{by_result, tree_wider, view_wider}
use Rattle.day_partitions.proofs.tree.Tree.widen.Goals as goal

pub invariant_of-self : goal.invariant_of-self
invariant_of-self c =
    let a = c.self.inside in
    let wider : a.pool.width ≤ c.args.width = omega (arith, c.requires, ap (λ t. t.width) c.self.view_is) in
    by_result c.new_width.result _ _ (IsTree c.new_width.new.self a.nodes.items a.leaves.items)
    (λ h. tree_wider a.pool c.new_width.new.self c.args.width wider h a.nodes.items a.leaves.items c.self.invariant)
    (λ e. subst (λ q. IsTree q a.nodes.items a.leaves.items) (sym e) c.self.invariant)
    c.new_width.ensures.ok c.new_width.ensures.err

pub returns-clause-ok : goal.returns-clause-ok
returns-clause-ok c =
    let a = c.self.inside in
    let wider : a.pool.width ≤ c.args.width = omega (arith, c.requires, ap (λ t. t.width) c.self.view_is) in
    on_ok c.new_width.result _ _ (λ h. view_wider a.pool c.new_width.new.self c.args.width wider h a.nodes.items a.leaves.items c.args.self.now c.self.invariant c.self.view_is) c.new_width.ensures.ok
