use Rattle.std.proofs.Common.{◌≡◌, ◌≤◌, replicate, None, vec_capacity}
use Rattle.day_partitions.proofs.making.missing_leaves.Given as goal

abbrev pub invariant-leaves : goal.invariant-leaves
invariant-leaves l =
    record {
      items : l.leaves.items ≡ replicate l.counter None;
      room : 64 ≤ vec_capacity l.leaves;
    }
