use Rattle.std.proofs.Common.{ap, arith, List, ℕ}
use Rattle.std.specs.FinMap.{len, len-empty}
use Rattle.std.specs.Ordering.{nat_cmp}
use Rattle.day_partitions.proofs.WiderLemmas.{tree_made}
use Rattle.day_partitions.proofs.tree.Tree.new.Goals as goal

pub reserve-requires : goal.reserve-requires
reserve-requires c = omega (arith, ap (λ p. len p.rows) c.new-pool.ensures, len-empty nat_cmp (List ℕ))

pub invariant_of-result : goal.invariant_of-result
invariant_of-result c = tree_made _ _ _ _ c.in_ok-nodes.ensures.made c.in_ok-leaves.ensures
