use Rattle.std.proofs.Common.{ap, arith, is_some, count_by, List, ℕ}
use Rattle.row_pool.specs.Pools.{row_at}
use Rattle.day_partitions.proofs.TreeLemmas.{count_all, count_rows}
use Rattle.day_partitions.proofs.tree.Tree.missing.Goals as goal

pub unreachable-requires : goal.unreachable-requires
unreachable-requires c =
    let a = c.self.inside in
    let all = count_all a.leaves.items c.leaves.slot (omega (arith, c.self.invariant.rows.all_leaves, c.leaves-test.false)) c.leaves.invariant in
    omega (arith, c.requires, all, c.self.invariant.rows.all_leaves, count_rows (row_at a.pool) a.leaves.items, ap (λ t. count_by (is_some {T = List ℕ}) t.leaves) c.self.view_is)
